-- Spellings of a discount rate in percent: three decimals, of which missing ones are zeros (31 CFR 356.12(c)(1)).
use Rattle.std.specs.Prelude.{ℕ, ◌+◌, ◌-◌, ◌*◌, ◌^◌, ◌==◌, List, length, Bool, ◌&&◌, nat_lt, nat_le, if◌then◌else◌, Option, Some, None}
use Rattle.std.specs.List.{before_first, after_first, list_any}
use Rattle.std.specs.Str.{all_ascii_digits}
use Rattle.std.specs.Str.Parse.{digits_value}
use Rattle.tb_units.specs.Bytes.{point}
use Rattle.std.specs.Option.{option_and_then, option_map}

-- a decimal point
abbrev pub is_point : ℕ → Bool
is_point byte = byte == point

-- the number that one to three decimal digits write; no other text is one
abbrev pub short_numeral_of : List ℕ → Option ℕ
short_numeral_of text =
    if all_ascii_digits text && nat_lt 0 (length text) && nat_le (length text) 3
    then Some (digits_value 10 text)
    else None

-- the thousandths that one to three decimals stand for: missing ones are zeros
abbrev pub thousandths_of_decimals : List ℕ → Option ℕ
thousandths_of_decimals decimals = option_map (λ n. n * 10 ^ (3 - length decimals)) (short_numeral_of decimals)

-- the thousandths of a percent that a text stands for: one to three digits, then optionally a point and one to
-- three decimals; no other text has the form
unfoldable pub thousandths_of : List ℕ → Option ℕ
thousandths_of text =
    if list_any is_point text
    then option_and_then
    (λ whole. option_map (λ thousandths. 1000 * whole + thousandths)
    (thousandths_of_decimals (after_first is_point text)))
    (short_numeral_of (before_first is_point text))
    else option_map (λ whole. 1000 * whole) (short_numeral_of text)
