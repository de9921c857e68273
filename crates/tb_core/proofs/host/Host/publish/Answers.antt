-- What the tables give is what the history says.
use Rattle.std.proofs.Common.{◌≡◌, ◌∙◌, ap, subst}
use Rattle.tb_message.specs.declared.message.Message.TheVariants as message
use Rattle.tb_terms.specs.Rows.{refusal_in}
use Rattle.tb_history.specs.Tables.{rows_of}
use Rattle.tb_core.specs.House.{House}
use Rattle.tb_core.proofs.RowLemmas.{tied_publish}
use Rattle.tb_core.proofs.host.Host.publish.Goals as goal

pub returns : goal.returns
returns c sender =
    subst (λ (h : House). c.publish_refusal.result
    ≡ refusal_in (rows_of h.history sender c.args.moment (message.Publish c.args.auction.now)))
    c.self.view_is
    (c.publish_refusal.ensures
    ∙ ap refusal_in (tied_publish c.self.inside.entries.list c.self.inside.tables c.self.invariant.tied sender
    c.args.moment
    c.args.auction.now c.terms_of-terms.result c.has_name-published.result c.terms_of-terms.ensures
    c.has_name-published.ensures))
