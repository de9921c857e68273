-- Names of submitters, bidders and auctions (our choice of characters).
use Rattle.std.specs.Prelude.{ℕ, ◌==◌, List, length, slice_index, Bool, ◌&&◌, ◌||◌, nat_lt, nat_le, if◌then◌else◌, Option, Some, None}
use Rattle.std.specs.List.{list_all}

-- a lower-case letter or a digit
abbrev pub is_name_start : ℕ → Bool
is_name_start byte = (nat_le 97 byte && nat_le byte 122) || (nat_le 48 byte && nat_le byte 57)

-- one of these, an underscore or a hyphen
abbrev pub is_name_byte : ℕ → Bool
is_name_byte byte = is_name_start byte || (byte == 95) || (byte == 45)

-- bytes of a name, at most
abbrev pub most_name_bytes : ℕ
most_name_bytes = 32

-- 1 to 32 of these bytes, the first a letter or a digit
unfoldable pub is_name : List ℕ → Bool
is_name text =
    nat_lt 0 (length text) && nat_le (length text) most_name_bytes && is_name_start (slice_index text 0)
    && list_all is_name_byte text

-- the name that a text is, if it is one
abbrev pub name_of : List ℕ → Option (List ℕ)
name_of text = if is_name text then Some text else None
