-- The Gregorian calendar of the years 2000 to 2099, by the numbers of days after 1970-01-01.
use Rattle.std.specs.Prelude.{◌≡◌, ℕ, zero, suc, ◌+◌, ◌-◌, ◌*◌, ◌/◌, ◌%◌, Bool, not, ◌&&◌, ◌||◌, ◌==◌, nat_le, if◌then◌else◌}

-- each fourth year, but of the centuries only every fourth
abbrev pub is_leap : ℕ → Bool
is_leap year = (year % 4 == 0) && (not (year % 100 == 0) || (year % 400 == 0))

-- thirty days have September, April, June and November
abbrev pub days_in_month : ℕ → ℕ → ℕ
days_in_month year month =
    if month == 2 then (if is_leap year then 29 else 28)
    else (if (month == 4) || (month == 6) || (month == 9) || (month == 11) then 30 else 31)

-- the days of the first months of a year
unfoldable pub days_before : ℕ → ℕ → ℕ
days_before year zero = 0
days_before year (suc months) = days_before year months + days_in_month year (suc months)

-- the first day of a year from 2000 to 2100: each fourth is a leap year, and 2000 is one
abbrev pub new_year : ℕ → ℕ
new_year year = 10957 + 365 * (year - 2000) + (year - 1997) / 4

-- the first day of a month, from 1 for January to 12
abbrev pub month_start : ℕ → ℕ → ℕ
month_start year month = new_year year + days_before year (month - 1)

-- the year of a day: four years have 1461 days
abbrev pub year_of : ℕ → ℕ
year_of day = 2000 + 4 * (day - 10957) / 1461

-- the last of the first months of a year that has begun on a day
unfoldable pub last_month : ℕ → ℕ → ℕ → ℕ
last_month year day zero = 0
last_month year day (suc months) =
    if nat_le (month_start year (suc months)) day then suc months else last_month year day months

-- the month of a day, from 1 to 12
abbrev pub month_of : ℕ → ℕ
month_of day = last_month (year_of day) day 12

-- the day of the month, from 1
abbrev pub day_of_month : ℕ → ℕ
day_of_month day = day + 1 - month_start (year_of day) (month_of day)

-- a day has this date
pub record IsDated (number year month day : ℕ) : Type 0 where
  pub in_year : year_of number ≡ year
  pub in_month : month_of number ≡ month
  pub on_day : day_of_month number ≡ day
