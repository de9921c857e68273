-- the lines of the bids so far
use Rattle.std.proofs.Common.{◌≡◌, map, take}
use Rattle.tb_history.specs.Readings.{bid_line}
use Rattle.tb_core.proofs.reading.lines_of.Given as goal

abbrev pub invariant-loop-bid : goal.invariant-loop-bid
invariant-loop-bid l = l.lines ≡ map (bid_line l.cancels.list) (take l.bid-index l.bids)
