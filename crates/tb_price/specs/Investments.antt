-- Investment rates of bills in thousandths of a percent (31 CFR Part 356, Appendix B; that a half rounds up is our
-- choice). Appendix B is multiplied out, so that nothing is divided.
use Rattle.std.specs.Prelude.{◌≡◌, ℕ, ◌+◌, ◌-◌, ◌*◌, ◌^◌, ◌<◌, ◌≤◌}

-- for at most half a year the rate is ((100 - P) / P) (y / r); with n for it the nearest thousandth has
-- (2n - 1) P r ≤ 200000 (100 - P) y < (2n + 1) P r, with what is taken off put on the other side; a price is never
-- above 100, so the one difference that is left is not cut off at zero
pub record IsShortRate (millionths days year thousandths : ℕ) : Type 0 where
  pub lower : 2 * thousandths * (millionths * days) ≤ 200000 * (10 ^ 8 - millionths) * year + millionths * days
  pub upper : 200000 * (10 ^ 8 - millionths) * year < (2 * thousandths + 1) * (millionths * days)

-- for more than half a year: the left side of Appendix B's equation, P (1 + (r - y/2) (i/y)) (1 + i/2), at a rate i of
-- t halves of a thousandth of a percent, multiplied by 16 * 10^16 * y; its right side, 100, becomes 16 * 10^18 * y
abbrev pub grown : ℕ → ℕ → ℕ → ℕ → ℕ
grown millionths days year t = millionths * (400000 * year + (2 * days - year) * t) * (400000 + t)

-- for more than half a year the rate makes that 100; the nearest thousandth n that is zero or positive has
-- grown at 2n - 1 ≤ 100 < grown at 2n + 1
pub record IsLongRate (millionths days year thousandths : ℕ) : Type 0 where
  -- 2n - 1 is written 2m + 1 for n = m + 1; where n is 0 it is below zero, and grown there is below 100 at any price
  pub lower : (m : ℕ) → thousandths ≡ m + 1 → grown millionths days year (2 * m + 1) ≤ 16 * 10 ^ 18 * year
  pub upper : 16 * 10 ^ 18 * year < grown millionths days year (2 * thousandths + 1)
