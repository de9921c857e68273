-- The auction's number stays the first place of its name as the bidder's is added.
use Rattle.tb_entries.proofs.NumberLemmas.{own-given}
use Rattle.tb_entries.proofs.said.said_of.Goals as goal

pub returns-in-Bid-clause-is : goal.returns-in-Bid-clause-is
returns-in-Bid-clause-is c = (
  own-given c.number_near-auction.new.names.list c.number_of-bidder.new.names.list _ c.number_near-auction.result
      c.number_of-bidder.ensures.grown c.number_near-auction.ensures.number,
  c.number_of-bidder.ensures.number.within,
)

pub returns-in-Position-clause-is : goal.returns-in-Position-clause-is
returns-in-Position-clause-is c = (
  own-given c.number_near-auction-in-Position.new.names.list c.number_of-bidder-in-Position.new.names.list _
      c.number_near-auction-in-Position.result c.number_of-bidder-in-Position.ensures.grown
      c.number_near-auction-in-Position.ensures.number,
  c.number_of-bidder-in-Position.ensures.number.within,
)
