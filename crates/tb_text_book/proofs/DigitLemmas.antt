-- Texts of decimal digits, by their bytes, and the numbers and rates that they write.
use Rattle.std.proofs.Common.{◌≡◌, ℕ, ◌+◌, ◌-◌, ◌*◌, ◌<◌, ◌≤◌, ◌^◌, ◌≢◌, ◌⊎◌, inl, inr, List, length, get_or, take, drop, true, false, refl, sym, ap, ◌∙◌, arith}
use Rattle.std.specs.Prelude.{Bool, IfSome, IsNone, None, Option, Some, not, position}
use Rattle.std.specs.Int.{IsInRange}
use Rattle.std.specs.Str.{all_ascii_digits}
use Rattle.std.specs.Str.Parse.{digits_value}
use Rattle.std.proofs.lemmas.Int.Digits.{digits_value_more}
use Rattle.std.proofs.lemmas.List.{get_or-take, length-take-le}
use Rattle.std.proofs.lemmas.List.Sums.{prefix_len-le-length}
use Rattle.std.proofs.lemmas.Str.{digit_value_digit}
use Rattle.std.proofs.lemmas.Str.Parse.{IsNumeralModel, digits_value_short, not_in_digits, numerals_by_value, tells_by_index}
use Rattle.std.proofs.lemmas.Bool.Decides.{nat_tests}
use Rattle.std.proofs.lemmas.Fmt.{decimal-digits_value, digits_decimal, digits_value-decimal, length-decimal-le}
use Rattle.std.specs.Fmt.{decimal}
use Rattle.std.specs.List.{position_or_len}
use Rattle.std.specs.Option.{option_and_then, option_map}
use Rattle.tb_units.proofs.NumberLemmas.{decimal-front, own}
use Rattle.tb_units.proofs.RateLemmas.{short_numeral_of-digits, thousandths_of-parts, thousandths_of-whole}
use Rattle.tb_units.specs.Rates.{is_point, short_numeral_of, thousandths_of, thousandths_of_decimals}

-- each of so many bytes at the front is a digit
abbrev pub HasDigits : List ℕ → ℕ → Type 0
HasDigits text count = (k : ℕ) → k < count → IsInRange 48 57 (get_or text k 0)

-- the same of a whole text
by_index : IsNumeralModel (λ text. HasDigits text (length text)) (digits_value 10)
by_index = numerals_by_value _ tells_by_index

-- a text whose bytes are digits is one of digits
pub HasDigits-all : (text : List ℕ) → HasDigits text (length text) → all_ascii_digits text ≡ true
HasDigits-all text digits = own.from text (by_index.to text digits)

-- what isn't true is false
not_true : (b : Bool) → ¬ (b ≡ true) → b ≡ false
not_true true fails = absurd (fails refl)
not_true false fails = refl

-- a text with another byte is none of digits
pub digits-other : (text : List ℕ) (i : ℕ)
    → i < length text
    → ¬ (IsInRange 48 57 (get_or text i 0))
    → all_ascii_digits text ≡ false
digits-other text i below other =
    not_true (all_ascii_digits text) (λ all. not_in_digits own text (get_or text i 0) all other i below refl)

-- the number of up to 12 digits
pub HasDigits-small : (text : List ℕ) (i : ℕ)
    → HasDigits text i
    → i < length text
    → length text ≤ 13
    → digits_value 10 (take i text) < 10 ^ 12
HasDigits-small text i digits below few =
    let size : length (take i text) ≡ i = length-take-le i text (omega arith) in
    digits_value_short by_index (take i text) 12
    (λ k front. let before : k < i = omega arith in rw (get_or-take i text k 0) (digits k before))
    (omega arith)

-- a digit more
pub digits_value-digit : (text : List ℕ) (i : ℕ)
    → i < length text
    → IsInRange 48 57 (get_or text i 0)
    → 10 * digits_value 10 (take i text) + (get_or text i 0 - 48) ≡ digits_value 10 (take (i + 1) text)
digits_value-digit text i below digit =
    let more = digits_value_more 10 text i below in
    let value = digit_value_digit (get_or text i 0) digit in
    omega (arith, more, value)

-- a few digits without a zero in front are the decimal number of their value
pub decimal-read : (text : List ℕ)
    → all_ascii_digits text ≡ true
    → 0 < length text
    → length text ≤ 13
    → (get_or text 0 0 ≡ 48 → length text ≤ 1)
    → text ≡ decimal (digits_value 10 text)
decimal-read text digits some few front =
    let small : digits_value 10 text < 10 ^ 13 = digits_value_short own text 13 digits few in
    sym (decimal-digits_value own text digits some (λ first. omega (arith, front first, some)) (omega (arith, small)))

-- a text that isn't of digits is no decimal number
pub decimal-other : (text : List ℕ)
    → all_ascii_digits text ≡ false
    → (n : ℕ)
    → n ≤ 10 ^ 12
    → text ≢ decimal n
decimal-other text other n small is =
    let digits : all_ascii_digits (decimal n) ≡ true = digits_decimal own n (omega arith) in
    absurd (let both : true ≡ false = sym digits ∙ ap all_ascii_digits (sym is) ∙ other in cc)

-- nor is one whose digits write more
pub decimal-above : (text : List ℕ)
    → 10 ^ 12 < digits_value 10 text
    → (n : ℕ)
    → n ≤ 10 ^ 12
    → text ≢ decimal n
decimal-above text above n small is =
    let value : digits_value 10 (decimal n) ≡ n = digits_value-decimal own n (omega arith) in
    let same : digits_value 10 text ≡ n = ap (digits_value 10) is ∙ value in
    absurd (omega arith)

-- nor is one that is empty, too long, or has a zero in front of another byte
pub decimal-form : (text : List ℕ)
    → (length text ≡ 0) ⊎ ((13 < length text) ⊎ ((get_or text 0 0 ≡ 48) × (1 < length text)))
    → (n : ℕ)
    → n ≤ 10 ^ 12
    → text ≢ decimal n
decimal-form text (inl none) n small is = decimal-front text (inl none) n (omega arith) is
decimal-form text (inr (inl long)) n small is =
    let few : length (decimal n) ≤ 13 = length-decimal-le 13 n (omega arith) (omega arith) (omega arith) in
    absurd (omega (arith, ap length is))
decimal-form text (inr (inr zeros)) n small is = decimal-front text (inr (inr zeros)) n (omega arith) is

-- one to three bytes are a short numeral where they are digits
pub short_numeral-is : (text : List ℕ) (number : Option ℕ)
    → 0 < length text
    → length text ≤ 3
    → IfSome number (λ n. (all_ascii_digits text ≡ true) × (n ≡ digits_value 10 text))
    → (IsNone number → all_ascii_digits text ≡ false)
    → number ≡ short_numeral_of text
short_numeral-is text None some few read none =
    let other = none refl in
    grind (arith, nat_tests)
short_numeral-is text (Some n) some few read none = ap Some read.1 ∙ sym (short_numeral_of-digits text read.0 some few)

-- a text without a point is a rate's whole number
pub thousandths_of-no_point : (text : List ℕ)
    → position is_point text ≡ None
    → thousandths_of text ≡ option_map (λ whole. 1000 * whole) (short_numeral_of text)
thousandths_of-no_point text none =
    let most = prefix_len-le-length (λ byte. not (is_point byte)) text in
    thousandths_of-whole text (grind (arith, nat_tests))

-- a text with a point is a whole number and decimals
pub thousandths_of-point : (text : List ℕ) (end : ℕ)
    → position is_point text ≡ Some end
    → thousandths_of text ≡ option_and_then
    (λ whole. option_map (λ thousandths. 1000 * whole + thousandths)
    (thousandths_of_decimals (drop (end + 1) text))) (short_numeral_of (take end text))
thousandths_of-point text end is =
    let within : position_or_len is_point text < length text = grind (arith, nat_tests) in
    let at : position_or_len is_point text ≡ end = grind (arith, nat_tests) in
    rw (← at) (thousandths_of-parts text within)
