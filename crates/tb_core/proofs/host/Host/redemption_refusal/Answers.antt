-- What the tables give is what the history says.
use Rattle.std.proofs.Common.{◌≡◌, ◌∙◌, ap, subst, Bool, Option, not, is_none, [], ◌∷◌}
use Rattle.tb_terms.specs.declared.announcement.Announcement.{Announcement}
use Rattle.tb_terms.specs.declared.refusal.Refusal.TheVariants as refusal
use Rattle.tb_terms.specs.Rows.{refusal_in}
use Rattle.tb_message.specs.declared.query.Query.TheVariants as query
use Rattle.tb_history.specs.Roster.{bill_of}
use Rattle.tb_history.specs.Answer.{asked_rows}
use Rattle.tb_tables.specs.Auctions.{announced_in}
use Rattle.tb_core.specs.House.{House}
use Rattle.tb_core.proofs.QueryLemmas.{tied_redemption}
use Rattle.tb_core.proofs.host.Host.redemption_refusal.Goals as goal

pub returns : goal.returns
returns c =
    let tables = c.self.inside.tables in
    let cusip = c.args.cusip.now in
    subst (λ (h : House). c.redemption_refusal.result ≡ refusal_in (asked_rows h.history (query.Redemption cusip)))
    c.self.view_is
    (c.redemption_refusal.ensures
    ∙ (ap (λ (found : Option Announcement). refusal_in
    ((refusal.UnknownSecurity, is_none found) ∷ (refusal.NotRedeemed, not c.has_bill-redeemed.result) ∷ []))
    c.bill_terms-terms.ensures
    ∙ (ap (λ (b : Bool). refusal_in
    ((refusal.UnknownSecurity, is_none (bill_of (announced_in tables.auctions.list) cusip)) ∷ (
      refusal.NotRedeemed,
      not b,
    ) ∷ [])) c.has_bill-redeemed.ensures
    ∙ ap refusal_in (tied_redemption c.self.inside.entries.list tables c.self.invariant.tied cusip))))
