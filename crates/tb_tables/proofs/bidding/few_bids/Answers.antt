-- The bids of a bidder are as many as pass the test.
use Rattle.std.proofs.Common.{arith}
use Rattle.tb_tables.proofs.bidding.few_bids.Goals as goal

pub returns-then-count-lt-MOST_BIDS : goal.returns-then-count-lt-MOST_BIDS
returns-then-count-lt-MOST_BIDS c = omega (arith, c.count-count.ensures)

pub returns : goal.returns
returns c = omega (arith, c.count-count.ensures)
