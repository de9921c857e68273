-- Eastern time by the rule in force since 2007 (15 U.S.C. 260a), for each day of 2000 to 2099: that it also holds for
-- the years before 2007 is our choice.
use Rattle.std.specs.Prelude.{ℕ, ◌+◌, ◌-◌, ◌*◌, ◌%◌, ◌<◌, ◌≤◌, max, ◌&&◌, nat_lt, nat_le, if◌then◌else◌}
use Rattle.tb_terms.specs.Calendar.{month_start, year_of}

-- the first Sunday on or after a day; day 0 was a Thursday
abbrev pub sunday_from : ℕ → ℕ
sunday_from day = day + (6 - (day + 3) % 7)

-- daylight saving time begins on this day of a year, at two in the morning
abbrev pub second_sunday_of_march : ℕ → ℕ
second_sunday_of_march year = sunday_from (month_start year 3 + 7)

-- and ends on this day, at two in the morning
abbrev pub first_sunday_of_november : ℕ → ℕ
first_sunday_of_november year = sunday_from (month_start year 11)

-- the first second of a day: clocks are 14,400 seconds behind UTC where daylight saving time began before the day and
-- has not ended before it, else 18,000
unfoldable pub start_of : ℕ → ℕ
start_of day =
    86400 * day
    + (if nat_lt (second_sunday_of_march (year_of day)) day && nat_le day (first_sunday_of_november (year_of day))
    then 14400
    else 18000)

-- a minute of the day from 8:00 to 18:00: by then the clocks have changed
unfoldable pub closing_of : ℕ → ℕ → ℕ
closing_of day minute =
    86400 * day + 60 * minute
    + (if nat_le (second_sunday_of_march (year_of day)) day && nat_lt day (first_sunday_of_november (year_of day))
    then 14400
    else 18000)

-- the date of a moment is the last day that starts at or before it
pub record IsDateOf (moment day : ℕ) : Type 0 where
  pub begun : start_of day ≤ moment
  pub last : (later : ℕ) → day < later → later ≤ 47481 → moment < start_of later

-- the running moment: a message's moment, or the last entry's where that is later
abbrev pub running : ℕ → ℕ → ℕ
running last moment = max last moment
