-- What std's `parse` gives at texts that are decimal numbers without leading zeros.
use Rattle.std.proofs.Common.{◌≡◌, ◌≢◌, ℕ, zero, suc, ◌<◌, ◌≤◌, ◌^◌, ◌⊎◌, inl, inr, List, length, get_or, true, sym, ◌∙◌, ap, arith, lit<}
use Rattle.std.specs.Prelude.{Result, Ok, Err, IfSome, IfNone}
use Rattle.std.specs.Result.{result_ok, OkIff}
use Rattle.std.specs.Fmt.{decimal}
use Rattle.std.specs.Str.{all_ascii_digits}
use Rattle.std.specs.Str.Parse.{ParsesUnsigned, digits_value}
use Rattle.std.proofs.lemmas.Str.Parse.{IsNumeralModel, numerals_by_value, tells_all_ascii_digits, parse_plain, not_in_digits}
use Rattle.std.proofs.lemmas.Fmt.{decimal-digits_value, digits_decimal, digits_value-decimal, first_decimal, decimal_digit, decimal_nonempty}

-- texts of decimal digits, and the numbers that they write
pub own : IsNumeralModel (λ ds. all_ascii_digits ds ≡ true) (digits_value 10)
own = numerals_by_value _ tells_all_ascii_digits

-- a decimal number has no sign
pub decimal-no_plus : (n : ℕ) → n < 2 ^ 64 → get_or (decimal n) 0 0 ≢ 43
decimal-no_plus n small =
    not_in_digits own (decimal n) 43 (digits_decimal own n small) (λ r. absurd (omega arith)) 0
    (decimal_nonempty n small)

-- only 0 begins with the digit 0
pub decimal-no_zero : (n : ℕ) → n < 2 ^ 64 → get_or (decimal n) 0 0 ≡ 48 → length (decimal n) ≤ 1
decimal-no_zero zero small first = rw (decimal_digit 0 (lit< tt)) (omega arith)
decimal-no_zero (suc n) small first =
    absurd (let h : 48 < get_or (decimal (suc n)) 0 0 = first_decimal (suc n) (omega arith) small in omega arith)

module _ {E : Type 0} (text : List ℕ) (no_plus : get_or text 0 0 ≢ 43)
    (no_zero : get_or text 0 0 ≡ 48 → length text ≤ 1) where
  pub parse-read : (r : Result ℕ E) → ParsesUnsigned 64 10 text r → IfSome (result_ok r) (λ n. text ≡ decimal n)
  parse-read (Ok n) parsed =
      let plain : OkIff {E = E} (Ok n)
      ((all_ascii_digits text ≡ true) × (0 < length text) × (digits_value 10 text < 2 ^ 64)) (digits_value 10 text) =
      parse_plain own {E = E} 64 text (Ok n) parsed no_plus in
      let spelled : decimal (digits_value 10 text) ≡ text =
      decimal-digits_value own text plain.0.0 plain.0.1 (λ first. omega (arith, no_zero first, plain.0.1))
      plain.0.2 in
      rw plain.1 (sym spelled)
  parse-read (Err e) parsed = tt

  pub parse-none : (r : Result ℕ E) → ParsesUnsigned 64 10 text r
      → IfNone (result_ok r) ((n : ℕ) → n < 2 ^ 64 → text ≢ decimal n)
  parse-none (Ok n) parsed = tt
  parse-none (Err e) parsed = λ n small is.
      let plain : ¬ ((all_ascii_digits text ≡ true) × (0 < length text) × (digits_value 10 text < 2 ^ 64)) =
      parse_plain own {E = E} 64 text (Err e) parsed no_plus in
      plain (rw is (digits_decimal own n small, decimal_nonempty n small, rw (digits_value-decimal own n small) small))

-- a text with another front is no decimal number
pub decimal-front : (text : List ℕ)
    → (length text ≡ 0) ⊎ ((get_or text 0 0 ≡ 43) ⊎ ((get_or text 0 0 ≡ 48) × (1 < length text)))
    → (n : ℕ)
    → n < 2 ^ 64
    → text ≢ decimal n
decimal-front text (inl none) n small is = absurd (omega (arith, ap length is, decimal_nonempty n small, none))
decimal-front text (inr (inl plus)) n small is = decimal-no_plus n small (ap (λ t. get_or t 0 0) (sym is) ∙ plus)
decimal-front text (inr (inr zeros)) n small is =
    absurd (omega (arith, decimal-no_zero n small (ap (λ t. get_or t 0 0) (sym is) ∙ zeros.0), ap length is, zeros.1))
