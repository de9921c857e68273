-- The calendar: holidays in the order of their dates, as they are kept beside the order in which they were entered.
use Rattle.std.specs.Prelude.{◌≡◌, ℕ, ◌<◌, ◌≤◌, ◌+◌, ◌==◌, ◌||◌, Bool, List, length}
use Rattle.std.specs.List.{AllPairs, list_any}
use Rattle.tb_units.specs.declared.day.Day.{Day}

-- each day is before those behind it
abbrev pub AreByDate : List Day → Type 0
AreByDate days = AllPairs (λ (one other : Day). one.number < other.number) days

-- the day of this number is among the days
abbrev pub is_among : List Day → ℕ → Bool
is_among days number = list_any (λ (day : Day). day.number == number) days

-- the calendar has the days that were entered
pub record IsCalendar (days entered : List Day) : Type 0 where
  pub same : (number : ℕ) → is_among days number ≡ is_among entered number
  pub few : length days ≤ length entered

-- the new days are the old ones with those that are added
pub record AddsDays (added old new : List Day) : Type 0 where
  pub same : (number : ℕ) → is_among new number ≡ (is_among old number || is_among added number)
  pub few : length new ≤ length old + length added
