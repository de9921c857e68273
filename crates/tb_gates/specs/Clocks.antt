-- What contracts see of a clock, and what a reading does to it.
use Rattle.std.specs.Prelude.{◌≡◌, ℕ, ◌-◌, List, length, get_or, min, Option, IfSome, Contains}
use Rattle.tb_link.specs.Counts.{counted}

-- the last reading in seconds, how many readings there were, and the moments that the clock gives, where it tells them
pub record ClockState : Type 0 where
  pub reading : ℕ
  pub readings : ℕ
  pub moments : Option (List ℕ)

-- the moment of a list that is given after so many readings: each in its turn, and then the last one again and again
abbrev pub moment_after : ℕ → List ℕ → ℕ
moment_after readings moments = get_or moments (min readings (length moments - 1)) 0

-- the clock was read, and gave this moment
pub record ReadsClock (old new : ClockState) (moment : ℕ) : Type 0 where
  pub reading : new.reading ≡ moment
  pub readings : new.readings ≡ counted old.readings
  pub moments : new.moments ≡ old.moments
  pub told : IfSome old.moments (λ moments. Contains moments moment)
  pub in_turn : IfSome old.moments (λ moments. moment ≡ moment_after old.readings moments)
