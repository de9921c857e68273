-- Days and minutes as they are written.
use Rattle.std.specs.Prelude.{ℕ, zero, suc, ◌+◌, ◌/◌, ◌%◌, List, ◌∷◌, ◌++◌, if◌then◌else◌, Option, Some, None, bytes_eq}
use Rattle.tb_units.specs.Bytes.{hyphen, colon}
use Rattle.tb_units.specs.Decimals.{last_digits}
use Rattle.tb_terms.specs.Calendar.{year_of, month_of, day_of_month}

-- four digits of a year, two of a month and two of a day, with hyphens between
abbrev pub date_text : ℕ → ℕ → ℕ → List ℕ
date_text year month day = last_digits 4 year ++ hyphen ∷ last_digits 2 month ++ hyphen ∷ last_digits 2 day

-- a day as YYYY-MM-DD
abbrev pub day_text : ℕ → List ℕ
day_text day = date_text (year_of day) (month_of day) (day_of_month day)

-- a minute of the day as HH:MM
abbrev pub minute_text : ℕ → List ℕ
minute_text minute = last_digits 2 (minute / 60) ++ colon ∷ last_digits 2 (minute % 60)

-- the number that a text spells, of so many from the least on
unfoldable pub spelled_in : (ℕ → List ℕ) → ℕ → ℕ → List ℕ → Option ℕ
spelled_in spell least zero text = None
spelled_in spell least (suc count) text =
    if bytes_eq (spell (least + count)) text then Some (least + count) else spelled_in spell least count text

-- the day that a text spells, of those from 2000-01-01 to 2099-12-31
abbrev pub day_of : List ℕ → Option ℕ
day_of text = spelled_in day_text 10957 36525 text

-- the minute of the day that a text spells
abbrev pub minute_of : List ℕ → Option ℕ
minute_of text = spelled_in minute_text 0 1440 text
