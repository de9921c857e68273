-- Names are equal exactly where their bytes are.
use Rattle.std.proofs.Common.{◌≡◌, ◌≢◌, List, ℕ, Bool, true, false, sym, subst, ◌∙◌}
use Rattle.std.specs.Prelude.{bytes_eq}
use Rattle.std.specs.Cmp.{IsEquivalence}
use Rattle.std.specs.Cmp.Lexicographic.{same_text}
use Rattle.std.proofs.lemmas.Cmp.{nat_list_eq_equiv}

-- the test by which names are compared
abbrev pub name_eq : List ℕ → List ℕ → Bool
name_eq = bytes_eq

-- what is found equal is one name
pub name_eq-same : (x y : List ℕ) → name_eq x y ≡ true → x ≡ y
name_eq-same x y is = same_text x y (sym is)

-- what is found different is another name
pub name_eq-other : (x y : List ℕ) → name_eq x y ≡ false → x ≢ y
name_eq-other x y is same =
    let h : name_eq x x ≡ false = subst (λ (z : List ℕ). name_eq x z ≡ false) (sym same) is in
    absurd (let t : true ≡ false = sym (nat_list_eq_equiv.refl x) ∙ h in cc)

-- the test is an equality
pub names_equivalence : IsEquivalence name_eq
names_equivalence = nat_list_eq_equiv
