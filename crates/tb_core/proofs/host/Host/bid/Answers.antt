-- What the tables give is what the history says.
use Rattle.std.proofs.Common.{◌≡◌, ◌∙◌, ap, subst}
use Rattle.tb_message.specs.declared.message.Message.TheVariants as message
use Rattle.tb_terms.specs.Rows.{refusal_in}
use Rattle.tb_history.specs.Tables.{rows_of}
use Rattle.tb_core.specs.House.{House}
use Rattle.tb_core.proofs.HouseLemmas.{few-bidders}
use Rattle.tb_core.proofs.RowLemmas.{tied_bid}
use Rattle.tb_core.proofs.host.Host.bid.Goals as goal

pub number_under-number-requires : goal.number_under-number-requires
number_under-number-requires c = few-bidders c.self.inside.entries.list c.self.inside.tables c.self.invariant.tied

pub own_of-own-requires-clause-tied : goal.own_of-own-requires-clause-tied
own_of-own-requires-clause-tied c = (c.self.inside.entries.list, c.self.invariant.tied)

pub returns : goal.returns
returns c =
    subst (λ (h : House). c.bid_refusal.result
    ≡ refusal_in (rows_of h.history c.args.sender.now c.args.moment
    (message.Bid c.args.auction.now c.args.bidder.now c.args.rate c.args.amount)))
    c.self.view_is
    (c.bid_refusal.ensures
    ∙ ap refusal_in (tied_bid c.self.inside.entries.list c.self.inside.tables c.self.invariant.tied c.args.sender.now
    c.args.moment
    c.args.auction.now c.args.bidder.now c.args.rate c.args.amount c.terms_of-terms.result
    c.number_under-number.result.1
    c.own_of-own.result (record { terms = c.terms_of-terms.ensures; under = c.number_under-number.ensures.under })
    c.own_of-own.ensures))
