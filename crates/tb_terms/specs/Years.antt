-- The length of the year after an issue (31 CFR Part 356, Appendix B: y is 366 where the year that follows the issue
-- date includes a 29 February; from which day to which that year is taken is our choice).
use Rattle.std.specs.Prelude.{◌≡◌, ℕ, ◌+◌, ◌-◌, ◌<◌, ◌≤◌, true, ◌==◌, nat_lt, ◌&&◌, ◌||◌, if◌then◌else◌}
use Rattle.tb_terms.specs.Calendar.{is_leap, month_start, year_of, month_of, day_of_month}

-- the same day of the next year; 1 March after a 29 February
abbrev pub same_day_next_year : ℕ → ℕ
same_day_next_year day = month_start (year_of day + 1) (month_of day) + day_of_month day - 1

-- the 29 February of a year lies after the issue date and not after the same day of the next year
pub record IsLeapYearAfter (issue year : ℕ) : Type 0 where
  pub from : 2000 ≤ year
  pub leap : is_leap year ≡ true
  pub after : issue < month_start year 2 + 28
  pub within : month_start year 2 + 28 ≤ same_day_next_year issue

-- one does
abbrev pub HasLeapDay : ℕ → Type 0
HasLeapDay issue = (year : ℕ) × IsLeapYearAfter issue year

-- the year in which the next 29 February after a date would be
abbrev pub february_year : ℕ → ℕ → ℕ → ℕ
february_year year month day = if nat_lt 2 month || (month == 2) && (day == 29) then year + 1 else year
