-- The moment of a number of seconds.
use Rattle.std.specs.Prelude.{◌≡◌, ℕ, ◌≤◌, min, max}
use Rattle.std.proofs.Common.{arith}
use Rattle.tb_units.specs.declared.moment.Moment.{Moment}
use Rattle.tb_units.specs.Same.{same_moment}

-- a number of seconds that is kept in the range of moments
abbrev pub in_range : ℕ → ℕ
in_range seconds = max 946702800 (min seconds 4102444799)

-- it isn't before the first moment
pub in_range-least : (seconds : ℕ) → 946702800 ≤ in_range seconds
in_range-least seconds = omega arith

-- and not after the last
pub in_range-greatest : (seconds : ℕ) → in_range seconds ≤ 4102444799
in_range-greatest seconds = omega arith

-- the moment of so many seconds; a number out of the range is taken to its nearer end
unfoldable pub moment_of : ℕ → Moment
moment_of seconds = record {
  seconds = in_range seconds;
  not_before = in_range-least seconds;
  not_after = in_range-greatest seconds;
}

-- a moment's seconds are in the range
seconds_of-in_range : (moment : Moment) → in_range moment.seconds ≡ moment.seconds
seconds_of-in_range moment = omega (arith, moment.not_before, moment.not_after)

-- the moment of a moment's seconds is that moment
pub moment_of-seconds : (moment : Moment) → moment_of moment.seconds ≡ moment
unfolding moment_of
moment_of-seconds moment = same_moment (moment_of moment.seconds) moment (seconds_of-in_range moment)
