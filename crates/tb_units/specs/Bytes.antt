-- Bytes of ASCII by their names.
use Rattle.std.specs.Prelude.{ℕ}

abbrev pub line_feed : ℕ
line_feed = 10

abbrev pub carriage_return : ℕ
carriage_return = 13

abbrev pub blank : ℕ
blank = 32

-- also the sign of a negative number
abbrev pub hyphen : ℕ
hyphen = 45

abbrev pub point : ℕ
point = 46

-- the digits follow it in order
abbrev pub digit_zero : ℕ
digit_zero = 48

abbrev pub colon : ℕ
colon = 58
