-- Lengths of at most nine digits are small.
use Rattle.std.proofs.Common.{◌≡◌, ℕ, zero, suc, ◌+◌, ◌-◌, ◌*◌, ◌<◌, ◌≤◌, List, [], ◌∷◌, length, take, get_or, true, ap, ◌∙◌, arith}
use Rattle.std.specs.List.{list_all}
use Rattle.std.specs.Char.{is_ascii_digit, digit_value}
use Rattle.std.specs.Str.Parse.{digits_value, AllDigits}
use Rattle.std.proofs.Math.Nat.{pow-le-pow_right}
use Rattle.std.proofs.lemmas.List.{length-take}
use Rattle.std.proofs.lemmas.Int.Digits.{digits_value-lt, digits_value_more}
use Rattle.tb_wire.proofs.Picks.{both_true}

-- a digit is below ten
digit : (c : ℕ) → is_ascii_digit c ≡ true → digit_value c < 10
digit c h = grind (arith, h)

-- a front of digits is digits
all_digits : (i : ℕ) (ds : List ℕ) → list_all is_ascii_digit ds ≡ true → AllDigits 10 (take i ds)
all_digits zero ds h = tt
all_digits (suc i) [] h = tt
all_digits (suc i) (d ∷ ds) h =
    let (one, others) = both_true (is_ascii_digit d) (list_all is_ascii_digit ds) h in
    (digit d one, all_digits i ds others)

-- whatever front of them is read
pub front_small : (i : ℕ) (ds : List ℕ)
    → list_all is_ascii_digit ds ≡ true
    → length ds ≤ 9
    → digits_value 10 (take i ds) < 1000000000
front_small i ds h few =
    let below = digits_value-lt 10 (take i ds) (all_digits i ds h) in
    let long : length (take i ds) ≤ 9 = let l = length-take i ds in omega (arith, l, few) in
    let ten : 0 < 10 = omega arith in
    let most = pow-le-pow_right {n = 10} ten {i = length (take i ds)} {j = 9} long in
    omega (arith, below, most)

-- a digit's number
digit_is : (c : ℕ) → is_ascii_digit c ≡ true → digit_value c ≡ c - 48
digit_is c h = grind (arith, h)

-- each of them is a digit
digit_at : (ds : List ℕ) (i : ℕ)
    → i < length ds
    → list_all is_ascii_digit ds ≡ true
    → is_ascii_digit (get_or ds i 0) ≡ true
digit_at [] i on h = absurd (let bad : ⊥ = omega (arith, on) in bad)
digit_at (d ∷ ds) zero on h = (both_true (is_ascii_digit d) (list_all is_ascii_digit ds) h).0
digit_at (d ∷ ds) (suc i) on h =
    digit_at ds i (omega (arith, on)) ((both_true (is_ascii_digit d) (list_all is_ascii_digit ds) h).1)

-- the number of one digit more
pub number_more : (ds : List ℕ) (i : ℕ) → i < length ds → list_all is_ascii_digit ds ≡ true
    → digits_value 10 (take (i + 1) ds) ≡ digits_value 10 (take i ds) * 10 + (get_or ds i 0 - 48)
number_more ds i on h =
    digits_value_more 10 ds i on
    ∙ ap (λ (n : ℕ). digits_value 10 (take i ds) * 10 + n) (digit_is (get_or ds i 0) (digit_at ds i on h))
