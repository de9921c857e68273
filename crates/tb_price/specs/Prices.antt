-- Prices of bills (31 CFR Part 356, Appendix B).
use Rattle.std.specs.Prelude.{ℕ, ◌+◌, ◌*◌, ◌^◌, ◌<◌, ◌≤◌, Bool, nat_lt}

-- the price per 100 in millionths nearest to 100 (1 - d r / 360), for a discount rate d of so many steps of 0.005
-- percent and r days: Appendix B multiplied out, so that nothing is divided; no exact half can occur
pub record IsPrice (steps days millionths : ℕ) : Type 0 where
  pub below_half_more : 2 * (9 * millionths + 125 * steps * days) < 18 * 10 ^ 8 + 9
  pub above_half_less : 18 * 10 ^ 8 < 2 * (9 * millionths + 125 * steps * days) + 9

-- the nearest price is above zero
abbrev pub HasPrice : ℕ → ℕ → Type 0
HasPrice steps days = (millionths : ℕ) × (1 ≤ millionths) × IsPrice steps days millionths

-- the same as a test: a millionth is no higher than half a millionth above the price
abbrev pub has_price : ℕ → ℕ → Bool
has_price steps days = nat_lt (2 * (9 + 125 * steps * days)) (18 * 10 ^ 8 + 9)
