-- Rates as texts: std's `parse` and `split_once` against the definitions.
use Rattle.std.proofs.Common.{◌≡◌, ◌≢◌, ℕ, ◌+◌, ◌*◌, ◌<◌, ◌≤◌, ◌^◌, List, [], ◌∷◌, length, get_or, Bool, true, false, cond, ltb, sym, ◌∙◌, ap, arith, refl}
use Rattle.std.specs.Prelude.{Result, Ok, Err, Some, None, IfSome}
use Rattle.std.specs.List.{list_any, position_or_len, before_first, after_first}
use Rattle.std.specs.Option.{option_map, option_and_then}
use Rattle.std.specs.Result.{result_ok, OkIff}
use Rattle.std.specs.Str.{all_ascii_digits}
use Rattle.std.specs.Str.Parse.{ParsesUnsigned, digits_value}
use Rattle.std.proofs.lemmas.Bool.Decides.{nat_tests}
use Rattle.std.proofs.lemmas.Str.Parse.{parse_plain, digits_value_short}
use Rattle.tb_units.specs.Rates.{is_point, short_numeral_of, thousandths_of_decimals, thousandths_of}
use Rattle.tb_units.proofs.NumberLemmas.{own}

-- one to three digits write a number
pub short_numeral_of-digits : (text : List ℕ)
    → all_ascii_digits text ≡ true
    → 0 < length text
    → length text ≤ 3
    → short_numeral_of text ≡ Some (digits_value 10 text)
short_numeral_of-digits text digits some few = grind (arith, nat_tests)

-- a fact of the value under a test
IfSome-cond : (b : Bool) (v : ℕ) (P : ℕ → Type 0) → (b ≡ true → P v) → IfSome (cond b (Some v) None) P
IfSome-cond true v P holds = holds refl
IfSome-cond false v P holds = tt

-- such a number has no more digits than its text
pub short_numeral_of-below : (text : List ℕ) → IfSome (short_numeral_of text) (λ number. number < 10 ^ length text)
short_numeral_of-below text =
    IfSome-cond _ _ (λ number. number < 10 ^ length text)
    (λ passed. digits_value_short own text (length text) (grind (arith, nat_tests)) (omega arith))

-- such a number has three digits at most
pub short_numeral_of-small : (text : List ℕ) → IfSome (short_numeral_of text) (λ number. number < 1000)
short_numeral_of-small text =
    IfSome-cond _ _ (λ number. number < 1000)
    (λ passed. digits_value_short own text 3 (grind (arith, nat_tests)) (grind (arith, nat_tests)))

-- what a short text with no sign is parsed to
pub parse-short_numeral : {E : Type 0} (text : List ℕ) (r : Result ℕ E)
    → get_or text 0 0 ≢ 43
    → 0 < length text
    → length text ≤ 3
    → ParsesUnsigned 32 10 text r
    → result_ok r ≡ short_numeral_of text
parse-short_numeral {E} text (Ok n) no_plus some few parsed =
    let plain : OkIff {E = E} (Ok n)
    ((all_ascii_digits text ≡ true) × (0 < length text) × (digits_value 10 text < 2 ^ 32)) (digits_value 10 text) =
    parse_plain own {E = E} 32 text (Ok n) parsed no_plus in
    ap Some plain.1 ∙ sym (short_numeral_of-digits text plain.0.0 some few)
parse-short_numeral {E} text (Err e) no_plus some few parsed =
    let plain : ¬ ((all_ascii_digits text ≡ true) × (0 < length text) × (digits_value 10 text < 2 ^ 32)) =
    parse_plain own {E = E} 32 text (Err e) parsed no_plus in
    let small : all_ascii_digits text ≡ true → digits_value 10 text < 10 ^ 3 =
    λ digits. digits_value_short own text 3 digits few in
    grind (arith, nat_tests)

-- a point stands in a text just where the first is before its end
pub list_any-point : (text : List ℕ) → list_any is_point text ≡ ltb (position_or_len is_point text) (length text)
list_any-point [] = refl
list_any-point (x ∷ xs) = grind (arith, nat_tests, list_any-point xs)

-- a text without a point is a whole number of percent
pub thousandths_of-whole : (text : List ℕ)
    → position_or_len is_point text ≡ length text
    → thousandths_of text ≡ option_map (λ whole. 1000 * whole) (short_numeral_of text)
unfolding thousandths_of
thousandths_of-whole text none =
    let no_point : list_any is_point text ≡ false = list_any-point text ∙ grind (arith, nat_tests) in
    rw no_point refl

-- a text with a point is a whole number and decimals
pub thousandths_of-parts : (text : List ℕ)
    → position_or_len is_point text < length text
    → thousandths_of text ≡ option_and_then
    (λ whole. option_map (λ thousandths. 1000 * whole + thousandths)
    (thousandths_of_decimals (after_first is_point text))) (short_numeral_of (before_first is_point text))
unfolding thousandths_of
thousandths_of-parts text some =
    let point : list_any is_point text ≡ true = list_any-point text ∙ grind (arith, nat_tests) in
    rw point refl
