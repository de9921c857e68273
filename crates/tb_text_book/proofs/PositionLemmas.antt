-- Positions and their spellings.
use Rattle.std.proofs.Common.{◌≡◌, ◌≢◌, ℕ, ℤ, pos, negsuc, suc, ◌≤◌, ◌^◌, List, ◌∷◌, sym, arith}
use Rattle.std.specs.Fmt.{decimal, signed_decimal}
use Rattle.tb_text_book.specs.BookLines.{IsPosition}
use Rattle.tb_text_book.proofs.DecimalLemmas.{decimal-one, decimal-unsigned}

-- digits of no number are digits of none below zero
pub below-none : (digits : List ℕ)
    → ((n : ℕ) → n ≤ 10 ^ 12 → digits ≢ decimal n)
    → (position : ℤ)
    → IsPosition position
    → 45 ∷ digits ≢ signed_decimal position
below-none digits no_number (pos n) small is = decimal-unsigned n digits small (sym is)
below-none digits no_number (negsuc n) small is =
    no_number (suc n) small (let same : digits ≡ decimal (suc n) = (cc) in same)

-- zero has no sign
pub below-zero : (digits : List ℕ)
    → digits ≡ decimal 0
    → (position : ℤ)
    → IsPosition position
    → 45 ∷ digits ≢ signed_decimal position
below-zero digits zero_is (pos n) small is = decimal-unsigned n digits small (sym is)
below-zero digits zero_is (negsuc n) small is =
    let same : digits ≡ decimal (suc n) = (cc) in
    let one : 0 ≡ suc n = decimal-one digits 0 (suc n) (omega arith) small zero_is same in
    absurd (omega arith)

-- a text without a sign is a position's where it is a number's
pub unsigned-none : (text : List ℕ)
    → ((n : ℕ) → n ≤ 10 ^ 12 → text ≢ decimal n)
    → ((rest : List ℕ) → text ≢ 45 ∷ rest)
    → (position : ℤ)
    → IsPosition position
    → text ≢ signed_decimal position
unsigned-none text no_number no_sign (pos n) small is = no_number n small is
unsigned-none text no_number no_sign (negsuc n) small is = no_sign (decimal (suc n)) is
