-- The lengths of printed numbers.
use Rattle.std.proofs.Common.{◌≡◌, ℕ, zero, suc, ◌+◌, ◌/◌, ◌<◌, ◌≤◌, ◌^◌, length, arith, refl, length-append}
use Rattle.std.specs.Fmt.{decimal}
use Rattle.std.proofs.lemmas.Fmt.{decimal_digit, decimal_step_wide, length-decimal-le_wide}
use Rattle.tb_units.specs.Decimals.{last_digits}

-- a number of two digits or more is one digit longer than its front
pub length-decimal_step : (n : ℕ) → 10 ≤ n → n < 10 ^ 30 → length (decimal n) ≡ length (decimal (n / 10)) + 1
length-decimal_step n two small = rw (decimal_step_wide n two (omega arith), length-append (decimal (n / 10)) _) refl

-- a number below ten has one digit
pub length-decimal_one : (n : ℕ) → n < 10 → length (decimal n) ≡ 1
length-decimal_one n one = rw (decimal_digit n one) refl

-- a number below 10^30 has 30 digits at most
pub length-decimal-le_30 : (n : ℕ) → n < 10 ^ 30 → length (decimal n) ≤ 30
length-decimal-le_30 n small = length-decimal-le_wide 30 n (omega arith) small (omega arith)

-- there are as many last digits as are asked for
pub length-last_digits : (places n : ℕ) → length (last_digits places n) ≡ places
length-last_digits zero n = refl
length-last_digits (suc places) n =
    rw (length-append (last_digits places (n / 10)) _, length-last_digits places (n / 10)) (omega arith)
