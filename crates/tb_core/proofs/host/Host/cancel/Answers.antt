-- What the tables give is what the history says.
use Rattle.std.proofs.Common.{◌≡◌, ◌∙◌, ap, subst}
use Rattle.tb_message.specs.declared.message.Message.TheVariants as message
use Rattle.tb_terms.specs.Rows.{refusal_in}
use Rattle.tb_history.specs.Tables.{rows_of}
use Rattle.tb_core.specs.House.{House}
use Rattle.tb_core.proofs.RowLemmas.{tied_cancel}
use Rattle.tb_core.proofs.host.Host.cancel.Goals as goal

pub returns : goal.returns
returns c =
    subst (λ (h : House). c.cancel_refusal.result
    ≡ refusal_in (rows_of h.history c.args.sender.now c.args.moment (message.Cancel c.args.auction.now c.args.number)))
    c.self.view_is
    (c.cancel_refusal.ensures
    ∙ ap refusal_in (tied_cancel c.self.inside.entries.list c.self.inside.tables c.self.invariant.tied c.args.sender.now
    c.args.moment
    c.args.auction.now c.args.number c.terms_of-terms.result c.find_bid-bid.result c.has_cancel-cancelled.result
    c.terms_of-terms.ensures c.find_bid-bid.ensures c.has_cancel-cancelled.ensures))
