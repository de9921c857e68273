-- Decimal numbers are told by their digits.
use Rattle.std.proofs.Common.{◌≡◌, ℕ, ◌≤◌, ◌^◌, List, ◌∷◌, subst, sym, ◌∙◌, arith}
use Rattle.std.specs.Str.Parse.{AllDigits}
use Rattle.std.specs.Fmt.{decimal}
use Rattle.std.proofs.lemmas.Fmt.{decimal_injective, decimal_is_IsNumeral}

-- a text spells one number up to 10 ^ 12
pub decimal-one : (text : List ℕ) (m n : ℕ)
    → m ≤ 10 ^ 12
    → n ≤ 10 ^ 12
    → text ≡ decimal m
    → text ≡ decimal n
    → m ≡ n
decimal-one text m n m_small n_small is_m is_n = decimal_injective m n (omega arith) (omega arith) (sym is_m ∙ is_n)

-- a decimal number has no sign
pub decimal-unsigned : (n : ℕ) (digits : List ℕ) → n ≤ 10 ^ 12 → ¬ (decimal n ≡ 45 ∷ digits)
decimal-unsigned n digits small is =
    let all = (decimal_is_IsNumeral n (omega arith)).0.1 in
    let first : AllDigits 10 (45 ∷ digits) = subst (AllDigits 10) is all in
    absurd (omega (arith, first.0))
