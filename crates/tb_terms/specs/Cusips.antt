-- CUSIPs: eight characters that name a security, and a check digit (ANSI X9.6).
use Rattle.std.specs.Prelude.{ℕ, ◌+◌, ◌-◌, ◌*◌, ◌/◌, ◌%◌, ◌==◌, List, slice_index, Bool, ◌&&◌, ◌||◌, nat_le, if◌then◌else◌}
use Rattle.std.specs.List.{list_all}

-- a digit or a capital letter
abbrev pub is_cusip_byte : ℕ → Bool
is_cusip_byte byte = (nat_le 48 byte && nat_le byte 57) || (nat_le 65 byte && nat_le byte 90)

-- its value: 0 to 9, and 10 to 35 for letters
abbrev pub value_of : ℕ → ℕ
value_of byte = if nat_le byte 57 then byte - 48 else byte - 55

-- the decimal digits of a number below 100, added up
abbrev pub digit_sum : ℕ → ℕ
digit_sum number = number / 10 + number % 10

-- the digits of one character's value and of the next one's, which is doubled
abbrev pub pair_sum : ℕ → ℕ → ℕ
pair_sum first second = digit_sum (value_of first) + digit_sum (2 * value_of second)

-- those of the first eight characters
abbrev pub check_sum : List ℕ → ℕ
check_sum bytes =
    pair_sum (slice_index bytes 0) (slice_index bytes 1) + pair_sum (slice_index bytes 2) (slice_index bytes 3)
    + pair_sum (slice_index bytes 4) (slice_index bytes 5) + pair_sum (slice_index bytes 6) (slice_index bytes 7)

-- nine such characters, the last of which brings the sum to a multiple of ten
abbrev pub is_cusip : List ℕ → Bool
is_cusip bytes = list_all is_cusip_byte bytes && (value_of (slice_index bytes 8) == (10 - check_sum bytes % 10) % 10)
