use Rattle.std.proofs.Common.{◌≡◌, ℕ, ◌<◌, ◌≤◌, ◌^◌, take, get_or}
use Rattle.tb_units.specs.declared.lines.RateLine.{RateLine}
use Rattle.tb_price.specs.Prices.{HasPrice}
use Rattle.tb_award.specs.Cuts.{total_of}
use Rattle.tb_award_tests.proofs.tests.may_be_cut.Given as goal

-- the lines so far have prices, and their amounts are added up
abbrev pub invariant-loop-place : goal.invariant-loop-place
invariant-loop-place l = record {
  sum : l.total ≡ total_of (take l.place l.recognised.lines);
  fits : l.total ≤ 10 ^ 22;
  priced : (k : ℕ) (d : RateLine) → k < l.place → HasPrice (get_or l.recognised.lines k d).rate.steps l.days.count;
}
