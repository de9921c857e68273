-- the bids so far are of so many bidders
use Rattle.std.proofs.Common.{◌<◌, All}
use Rattle.tb_award_tests.proofs.tests.bids_of.Given as goal

abbrev pub invariant-loop-place : goal.invariant-loop-place
invariant-loop-place g l = All (λ line. line.bidder < l.bidders) l.bids.items
