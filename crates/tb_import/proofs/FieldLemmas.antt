-- Fields of records.
use Rattle.std.proofs.Common.{◌≡◌, ◌≢◌, ℕ, ◌<◌, ◌≤◌, ◌^◌, zero, suc, Option, None}
use Rattle.std.proofs.Common.{[], ◌∷◌, length, Some, sym, subst, arith}
use Rattle.std.specs.Prelude.{IsUtf8}
use Rattle.std.specs.Fmt.{decimal}
use Rattle.std.proofs.lemmas.Str.{IsUtf8-from_ascii}
use Rattle.std.proofs.lemmas.Fmt.{IsAscii-decimal}
use Rattle.csv.specs.Records.{field_at}
use Rattle.tb_import.specs.Rows.{Text, Fields}

-- bytes that are no text write no number
pub not_decimal : (field : Text) (number : ℕ) → ¬ (IsUtf8 field) → number < 2 ^ 64 → field ≢ decimal number
not_decimal field number other small writes =
    other (subst IsUtf8 (sym writes) (IsUtf8-from_ascii (decimal number) (IsAscii-decimal number small)))

-- a record of five fields is the list of them
pub five_at : (fields : Fields) (a b c d e : Text)
    → length fields ≡ 5
    → Some a ≡ field_at fields 0
    → Some b ≡ field_at fields 1
    → Some c ≡ field_at fields 2
    → Some d ≡ field_at fields 3
    → Some e ≡ field_at fields 4
    → fields ≡ a ∷ b ∷ c ∷ d ∷ e ∷ []
unfolding field_at
five_at [] a b c d e five at0 at1 at2 at3 at4 = absurd (omega (arith, five))
five_at (f0 ∷ []) a b c d e five at0 at1 at2 at3 at4 = absurd (omega (arith, five))
five_at (f0 ∷ f1 ∷ []) a b c d e five at0 at1 at2 at3 at4 = absurd (omega (arith, five))
five_at (f0 ∷ f1 ∷ f2 ∷ []) a b c d e five at0 at1 at2 at3 at4 = absurd (omega (arith, five))
five_at (f0 ∷ f1 ∷ f2 ∷ f3 ∷ []) a b c d e five at0 at1 at2 at3 at4 = absurd (omega (arith, five))
five_at (f0 ∷ f1 ∷ f2 ∷ f3 ∷ f4 ∷ []) a b c d e five at0 at1 at2 at3 at4 = cc (at0, at1, at2, at3, at4)
five_at (f0 ∷ f1 ∷ f2 ∷ f3 ∷ f4 ∷ f5 ∷ fields) a b c d e five at0 at1 at2 at3 at4 = absurd (omega (arith, five))

-- no field stands at a place behind the last
field_none : (fields : Fields) (place : ℕ) → ◌≡◌ {A = Option Text} None (field_at fields place) → length fields ≤ place
unfolding field_at
field_none [] place none = omega arith
field_none (field ∷ fields) zero none = cc (none)
field_none (field ∷ fields) (suc place) none = omega (arith, field_none fields place none)

-- each of the first five places of a record of five has a field
pub no_field : (fields : Fields) (place : ℕ)
    → ◌≡◌ {A = Option Text} None (field_at fields place)
    → place < 5
    → ¬ (length fields ≡ 5)
no_field fields place none early five = absurd (omega (arith, field_none fields place none, early, five))
