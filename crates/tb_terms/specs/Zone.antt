-- Eastern time as a time zone: the text of its rule, and when a day begins in it.
use Rattle.std.specs.Prelude.{ℕ, ℤ, pos, ◌+ℤ◌, ◌*ℤ◌, int_lt, int_le, ◌&&◌, if◌then◌else◌, List, codes}
use Rattle.jiff_tz.specs.PosixRule.{nth_weekday}
use Rattle.jiff_tz.specs.declared.timezone.TimeZone.{TimeZone}
use Rattle.jiff.specs.Placed.{IsPosixZone}

-- the second Sunday of March, and the first of November
abbrev pub march_change : ℤ → ℤ
march_change y = nth_weekday y 3 2 0

abbrev pub november_change : ℤ → ℤ
november_change y = nth_weekday y 11 1 0

-- the first moment of a day of the year y
unfoldable pub start_in_zone : ℤ → ℤ → ℤ
start_in_zone y day =
    day *ℤ pos 86400 +ℤ pos (if int_lt (march_change y) day && int_le day (november_change y) then 14400 else 18000)

-- the rule of POSIX
abbrev pub rule_text : List ℕ
rule_text = codes "EST5EDT,M3.2.0,M11.1.0"

-- a zone of this rule
abbrev pub IsEastern : TimeZone → Type 0
IsEastern = IsPosixZone rule_text
