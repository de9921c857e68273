-- The rows stay, and the new one is the bid's.
use Rattle.std.proofs.Common.{◌<◌, ◌∷◌, ◌++◌, [], sym, ap, subst, ◌∙◌, arith}
use Rattle.tb_index.specs.Listed.{Listed}
use Rattle.tb_history.specs.declared.bids.Bid.{Bid}
use Rattle.tb_entries.proofs.BidLemmas.{Pushed, pushed}
use Rattle.tb_entries.proofs.NumberLemmas.{own-stays}
use Rattle.tb_entries.proofs.bids.Bids.push.Goals as goal

pub number_near-auction-requires-clause-near : goal.number_near-auction-requires-clause-near
number_near-auction-requires-clause-near c =
    own-stays c.self.inside.names.list c.number_near-submitter.new.names.list
    c.last_numbers-near_submitter.result.1 c.number_near-submitter.ensures.grown
    (c.last_numbers-near_submitter.ensures.auction c.self.inside.names.list
    (rw c.rows.ensures c.self.invariant.0))

-- what the three numberings and the new row come to
after : (c : goal.After-push)
    → Pushed c.self.inside.names.list c.number_of-bidder.new.names.list c.self.inside.rows.list c.push.new.self.list
    c.args.bid.now
after c =
    pushed c.self.inside.names.list c.self.inside.rows.list c.self.invariant.0 c.args.bid.now
    c.number_near-submitter.new.names.list c.number_near-auction.new.names.list c.number_of-bidder.new.names.list
    c.number_near-submitter.ensures.grown c.number_near-auction.ensures.grown c.number_of-bidder.ensures.grown
    c.number_near-submitter.result c.number_near-auction.result c.number_of-bidder.result
    c.number_near-submitter.ensures.number c.number_near-auction.ensures.number c.number_of-bidder.ensures.number
    c.push.new.self.list c.push.ensures.list

pub invariant_of-self : goal.invariant_of-self
invariant_of-self c = (
  (after c).rows_are,
  omega (
    arith,
    subst (λ (value : Listed Bid). 0 < value.spare) (sym c.self.view_is) c.requires,
    c.self.invariant.1,
    c.number_near-submitter.ensures.long,
    c.number_near-auction.ensures.long,
    c.number_of-bidder.ensures.long,
  ),
)

pub returns-clause-list : goal.returns-clause-list
returns-clause-list c = (after c).bids_are ∙ ap (λ bids. bids ++ c.args.bid.now ∷ []) (λ i. (c.self.view_is i).list)
