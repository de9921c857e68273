-- What the tables give is what the history says.
use Rattle.std.proofs.Common.{◌≡◌, ◌∙◌, ap, is_some, subst}
use Rattle.tb_message.specs.declared.message.Message.TheVariants as message
use Rattle.tb_terms.specs.Rows.{refusal_in}
use Rattle.tb_history.specs.Tables.{rows_of}
use Rattle.tb_core.specs.House.{House}
use Rattle.tb_core.proofs.RowLemmas.{tied_add_on}
use Rattle.tb_core.proofs.host.Host.add_on.Goals as goal

pub returns : goal.returns
returns c sender =
    subst (λ (h : House). c.add_on_refusal.result
    ≡ refusal_in (rows_of h.history sender c.args.moment
    (message.AddOn c.args.auction.now c.args.holder.now c.args.amount)))
    c.self.view_is
    (c.add_on_refusal.ensures
    ∙ ap refusal_in (tied_add_on c.self.inside.entries.list c.self.inside.tables c.self.invariant.tied sender
    c.args.moment c.args.auction.now c.args.holder.now c.args.amount c.terms_of-terms.result
    c.has_submitter-known.result c.is_some-standing.result c.terms_of-terms.ensures c.has_submitter-known.ensures
    (c.is_some-standing.ensures ∙ ap is_some c.find_add_on.ensures)))
