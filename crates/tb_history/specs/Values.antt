-- Days from numbers, and the first number that passes a test.
use Rattle.std.specs.Prelude.{◌≡◌, ℕ, zero, suc, ◌+◌, ◌/◌, ◌%◌, ◌≤◌, min, max, Bool, if◌then◌else◌}
use Rattle.std.proofs.Common.{arith}
use Rattle.tb_units.specs.declared.day.Day.{Day}
use Rattle.tb_units.specs.Same.{same_day}

-- a number that is kept in the range of days
abbrev pub day_within : ℕ → ℕ
day_within number = max 10957 (min number 47481)

-- it isn't before the first day
pub day_within-least : (number : ℕ) → 10957 ≤ day_within number
day_within-least number = omega arith

-- and not after the last
pub day_within-greatest : (number : ℕ) → day_within number ≤ 47481
day_within-greatest number = omega arith

-- the day of so many days after 1970-01-01
unfoldable pub day_of : ℕ → Day
day_of number =
    record { number = day_within number; not_before = day_within-least number; not_after = day_within-greatest number }

-- the day of a day's number is that day
pub day_of-number : (day : Day) → day_of day.number ≡ day
unfolding day_of
day_of-number day = same_day (day_of day.number) day (omega (arith, day.not_before, day.not_after))

-- the first number from one on, of so many, that passes; the one behind them where none does
unfoldable pub first_from : (ℕ → Bool) → ℕ → ℕ → ℕ
first_from passes from zero = from
first_from passes from (suc more) = if passes from then from else first_from passes (suc from) more

-- a quotient rounded up: one more where something is left over
unfoldable pub rounded_up : ℕ → ℕ → ℕ
rounded_up number divisor = number / divisor + min 1 (number % divisor)
