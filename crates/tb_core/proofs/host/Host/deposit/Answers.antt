-- What the tables give is what the history says.
use Rattle.std.proofs.Common.{◌≡◌, ◌∙◌, ap, subst}
use Rattle.tb_message.specs.declared.message.Message.TheVariants as message
use Rattle.tb_terms.specs.Rows.{refusal_in}
use Rattle.tb_history.specs.Tables.{rows_of}
use Rattle.tb_core.specs.House.{House}
use Rattle.tb_core.proofs.OfferRowLemmas.{tied_deposit}
use Rattle.tb_core.proofs.host.Host.deposit.Goals as goal

pub returns : goal.returns
returns c sender moment cents =
    subst (λ (h : House). c.deposit_refusal.result
    ≡ refusal_in (rows_of h.history sender moment (message.Deposit c.args.participant.now cents)))
    c.self.view_is
    (c.deposit_refusal.ensures
    ∙ ap refusal_in (tied_deposit c.self.inside.entries.list c.self.inside.tables c.self.invariant.tied sender moment
    c.args.participant.now cents c.has_submitter.result c.has_submitter.ensures))
