-- Printed numbers with decimals.
use Rattle.std.specs.Prelude.{ℕ, zero, suc, ◌+◌, ◌*◌, ◌/◌, ◌%◌, ◌^◌, List, [], ◌∷◌, ◌++◌}
use Rattle.std.specs.Fmt.{decimal}
use Rattle.tb_units.specs.Bytes.{digit_zero, point}

-- the last digits of a number, so many of them, with zeros in front where it has fewer
abbrev pub last_digits : ℕ → ℕ → List ℕ
last_digits zero n = []
last_digits (suc places) n = last_digits places (n / 10) ++ (digit_zero + n % 10) ∷ []

-- a number of units of 10 ^ -places as a decimal number with so many decimals
abbrev pub with_decimals : ℕ → ℕ → List ℕ
with_decimals places n = decimal (n / 10 ^ places) ++ point ∷ last_digits places n

-- a rate in percent, from its steps of 0.005
abbrev pub rate_text : ℕ → List ℕ
rate_text steps = with_decimals 3 (5 * steps)

-- a price per 100, from its millionths
abbrev pub price_text : ℕ → List ℕ
price_text millionths = with_decimals 6 millionths

-- a percentage, from its hundredths
abbrev pub percent_text : ℕ → List ℕ
percent_text hundredths = with_decimals 2 hundredths

-- money in dollars, from its cents
abbrev pub cents_text : ℕ → List ℕ
cents_text cents = with_decimals 2 cents
