-- What the tables give is what the history says.
use Rattle.std.proofs.Common.{◌≡◌, ◌∙◌, ap, subst}
use Rattle.tb_message.specs.declared.message.Message.TheVariants as message
use Rattle.tb_terms.specs.Rows.{refusal_in}
use Rattle.tb_history.specs.Tables.{rows_of}
use Rattle.tb_core.specs.House.{House}
use Rattle.tb_core.proofs.RowLemmas.{tied_position}
use Rattle.tb_core.proofs.host.Host.position.Goals as goal

pub returns : goal.returns
returns c position =
    subst (λ (h : House). c.position_refusal.result
    ≡ refusal_in (rows_of h.history c.args.sender.now c.args.moment
    (message.Position c.args.auction.now c.args.bidder.now position)))
    c.self.view_is
    (c.position_refusal.ensures
    ∙ ap refusal_in (tied_position c.self.inside.entries.list c.self.inside.tables c.self.invariant.tied
    c.args.sender.now c.args.moment
    c.args.auction.now c.args.bidder.now position c.terms_of-terms.result c.is_enrolled-enrolled.result
    (record { terms = c.terms_of-terms.ensures; under = c.is_enrolled-enrolled.ensures })))
