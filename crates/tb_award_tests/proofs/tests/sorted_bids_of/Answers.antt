-- Sorted bids are the same bids.
use Rattle.std.proofs.Common.{◌<◌}
use Rattle.std.proofs.lemmas.List.Sorted.{All-permutation}
use Rattle.tb_units.specs.declared.lines.RateLine.{RateLine}
use Rattle.tb_award_tests.proofs.tests.sorted_bids_of.Goals as goal

pub returns : goal.returns
returns g c = All-permutation (λ (line : RateLine). line.bidder < c.args.bidders) c.bids_of-bids.result.items
    c.new.result c.new.ensures c.bids_of-bids.ensures
