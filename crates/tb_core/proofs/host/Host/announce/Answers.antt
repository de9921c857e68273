-- What the tables give is what the history says.
use Rattle.std.proofs.Common.{◌≡◌, ◌∙◌, ap, subst, Bool}
use Rattle.tb_message.specs.declared.message.Message.TheVariants as message
use Rattle.tb_terms.specs.Rows.{refusal_in}
use Rattle.tb_history.specs.Tables.{rows_of, announce_rows}
use Rattle.tb_tables.specs.Auctions.{announced_in}
use Rattle.tb_core.specs.House.{House}
use Rattle.tb_core.proofs.RowLemmas.{tied_announce}
use Rattle.tb_core.proofs.host.Host.announce.Goals as goal

pub returns : goal.returns
returns c sender moment =
    subst (λ (h : House). c.announce_refusal.result
    ≡ refusal_in (rows_of h.history sender moment (message.Announce c.args.terms.now)))
    c.self.view_is
    (c.announce_refusal.ensures
    ∙ (ap (λ (b : Bool). refusal_in
    (announce_rows (announced_in c.self.inside.tables.auctions.list) b c.args.terms.now)) c.has_bill-redeemed.ensures
    ∙ ap refusal_in (tied_announce c.self.inside.entries.list c.self.inside.tables c.self.invariant.tied sender moment
    c.args.terms.now)))
