-- What the tables and the funds give is what the history says.
use Rattle.std.proofs.Common.{◌≡◌, ◌∙◌, ap, subst, sym}
use Rattle.tb_message.specs.declared.message.Message.TheVariants as message
use Rattle.tb_terms.specs.Rows.{refusal_in}
use Rattle.tb_history.specs.Funds.{balance_of}
use Rattle.tb_history.specs.Tables.{rows_of}
use Rattle.tb_core.specs.House.{House}
use Rattle.tb_core.proofs.OfferRowLemmas.{tied_withdraw}
use Rattle.tb_core.proofs.host.Host.withdraw.Goals as goal

pub returns : goal.returns
returns c sender moment =
    subst (λ (h : House). c.withdraw_refusal.result
    ≡ refusal_in (rows_of h.history sender moment (message.Withdraw c.args.participant.now c.args.cents)))
    c.self.view_is
    (c.withdraw_refusal.ensures
    ∙ ap refusal_in (tied_withdraw c.self.inside.entries.list c.self.inside.tables c.self.invariant.tied sender moment
    c.args.participant.now c.args.cents c.has_submitter-known.result c.balance.result.value
    c.has_submitter-known.ensures
    (subst (λ (h : House). c.balance.result.value ≡ balance_of h.history c.args.participant.now) (sym c.self.view_is)
    c.balance.ensures)))
