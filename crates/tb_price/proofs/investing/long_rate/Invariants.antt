use Rattle.std.proofs.Common.{◌-◌, ◌≡◌, ◌+◌, ◌*◌, ◌^◌, ◌<◌, ◌≤◌, ℕ}
use Rattle.tb_price.specs.Investments.{grown}
use Rattle.tb_price.proofs.investing.long_rate.Given as goal

-- the rate lies between the two, as far as they have come
pub record IsBracketed (millionths days year low high : ℕ) : Type 0 where
  pub order : low ≤ high
  pub most : high ≤ 2 ^ 36
  pub lower : (m : ℕ) → low ≡ m + 1 → grown millionths days year (2 * m + 1) ≤ 16 * 10 ^ 18 * year
  pub upper : 16 * 10 ^ 18 * year < grown millionths days year (2 * high + 1)

abbrev pub invariant-loop-low : goal.invariant-loop-low
invariant-loop-low l = IsBracketed l.price.millionths l.days.count l.year l.low l.high

abbrev pub decreases-loop-low : goal.decreases-loop-low
decreases-loop-low l = l.high - l.low
