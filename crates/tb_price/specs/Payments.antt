-- Payments for awarded par (31 CFR Part 356, Appendix B; that a half rounds up is our choice).
use Rattle.std.specs.Prelude.{ℕ, ◌+◌, ◌*◌, ◌^◌, ◌<◌, ◌≤◌}

-- the cents nearest to par times price over 100, for whole dollars of par and a price in millionths per 100, a half
-- rounded up: (2c - 1) 10^6 ≤ 2 par price < (2c + 1) 10^6, with what is taken off put on the other side
pub record IsPayment (par millionths cents : ℕ) : Type 0 where
  pub lower : 2 * cents * 10 ^ 6 ≤ 2 * par * millionths + 10 ^ 6
  pub upper : 2 * par * millionths < (2 * cents + 1) * 10 ^ 6
