-- The redeemed bills are those of the history.
use Rattle.std.proofs.Common.{◌≡◌, ◌∙◌, Option, ap, subst, sym}
use Rattle.tb_terms.specs.declared.terms.Terms.{Terms}
use Rattle.tb_history.specs.Roster.{is_redeemed}
use Rattle.tb_tables.specs.Auctions.{announcement_in}
use Rattle.tb_core.specs.House.{House}
use Rattle.tb_core.specs.Offered.{is_gone}
use Rattle.tb_core.proofs.host.Host.is_redeemed.Goals as goal

pub returns-in-Some : goal.returns-in-Some
returns-in-Some c =
    subst (λ (h : House). c.has_bill.result ≡ is_gone h.history (announcement_in c.args.terms.now)) c.self.view_is
    (c.has_bill.ensures
    ∙ (ap (λ all. is_redeemed all c.in-Some.terms.announcement.cusip) c.self.invariant.tied.redeemed_are
    ∙ ap (λ (found : Option Terms). is_gone c.self.inside.entries.list (announcement_in found)) (sym c.in-Some.is)))
