-- Names and their numbers, as more names are added.
use Rattle.std.proofs.Common.{◌≡◌, ℕ, ◌<◌, Bool, true, false, not, ◌==◌, nat_lt, Option, Some, None, List, [], ◌∷◌, ◌++◌, inl, inr, refl, sym, ap, ◌∙◌, subst, length, get_or, arith}
use Rattle.std.specs.Prelude.{IfSome}
use Rattle.std.specs.List.{position, position_or_len}
use Rattle.std.proofs.Math.ListN.{get_or-append}
use Rattle.std.proofs.Math.Seq.{get_or-append_seam}
use Rattle.std.proofs.lemmas.Bool.{cases_Bool, ltb-true, false≢true}
use Rattle.std.proofs.lemmas.Bool.Decides.{nat_tests}
use Rattle.std.proofs.lemmas.List.{append_assoc, append-nil, length-append, length_push}
use Rattle.std.proofs.lemmas.List.Sums.{prefix_len_stops}
use Rattle.std.proofs.lemmas.Slice.Eq.{bytes_eq-Decides}
use Rattle.tb_history.specs.Entries.{is_same}
use Rattle.tb_index.proofs.PositionLemmas.{position-new, position-short, position-stays}
use Rattle.tb_entries.specs.Rows.{name_at, IsNumber, IsOwnNumber, Grown}

not-false : (b : Bool) → not b ≡ false → b ≡ true
not-false true is = refl
not-false false is = absurd (false≢true (sym is))

-- the first place that passes is as it is found
pub passes : {X : Type 0} (p : X → Bool) (xs : List X) (place : ℕ) (d : X)
    → position p xs ≡ Some place
    → p (get_or xs place d) ≡ true
passes p xs place d placed =
    elim (cases_Bool (nat_lt (position_or_len p xs) (length xs))) [
      | inl below ↦
          let found : Some (position_or_len p xs) ≡ Some place = rw below at placed in
          let same : position_or_len p xs ≡ place = cc in
          let stops : not (p (get_or xs (position_or_len p xs) d)) ≡ false =
          prefix_len_stops (λ x. not (p x)) xs d (ltb-true _ _ below) in
          not-false _ (ap (λ n. not (p (get_or xs n d))) (sym same) ∙ stops)
      | inr past ↦ let wrong : ◌≡◌ {A = Option ℕ} None (Some place) = rw past at placed in cc
    ]

-- a first place stays
pub stays : {X : Type 0} (p : X → Bool) (xs more : List X) (place : ℕ)
    → position p xs ≡ Some place
    → position p (xs ++ more) ≡ Some place
stays p xs [] place placed = ap (position p) (append-nil xs) ∙ placed
stays p xs (x ∷ more) place placed =
    ap (position p) (sym (append_assoc xs (x ∷ []) more))
    ∙ stays p (xs ++ x ∷ []) more place (position-stays p xs x place placed)

-- a name keeps its number
pub name-stays : (names more : List (List ℕ)) (number : ℕ)
    → number < length names
    → name_at (names ++ more) number ≡ name_at names number
name-stays names more number within = get_or-append names more [] number within

pub IsNumber-stays : (names more : List (List ℕ)) (name : List ℕ) (number : ℕ)
    → IsNumber names name number
    → IsNumber (names ++ more) name number
IsNumber-stays names more name number is = record {
  within = omega (arith, length-append names more, is.within);
  named = name-stays names more number is.within ∙ is.named;
  first = stays _ names more number is.first;
}

-- the number of a name is that of the name that stands there
pub IsOwnNumber-is : (names : List (List ℕ)) (name : List ℕ) (number : ℕ)
    → IsNumber names name number
    → IsOwnNumber names number
IsOwnNumber-is names name number is = subst (λ (n : List ℕ). IsNumber names n number) (sym is.named) is

-- and stays that
pub IsOwnNumber-stays : (names more : List (List ℕ)) (number : ℕ)
    → IsOwnNumber names number
    → IsOwnNumber (names ++ more) number
IsOwnNumber-stays names more number own =
    IsOwnNumber-is (names ++ more) _ number (IsNumber-stays names more _ number own)

-- so does a number that a name may have
pub own-stays : (names now : List (List ℕ)) (near : Option ℕ)
    → Grown names now
    → IfSome near (IsOwnNumber names)
    → IfSome near (IsOwnNumber now)
own-stays names now None grown own = own
own-stays names now (Some number) grown own =
    subst (λ (all : List (List ℕ)). IsOwnNumber all number) (sym grown.1)
    (IsOwnNumber-stays names grown.0 number own)

-- and the number of a name that was given before
pub own-given : (names now : List (List ℕ)) (name : List ℕ) (number : ℕ)
    → Grown names now
    → IsNumber names name number
    → IsOwnNumber now number
own-given names now name number grown is =
    own-stays names now (Some number) grown (IsOwnNumber-is names name number is)

-- a name is the one that is sought just where it has the number of it
pub same_number : (names : List (List ℕ)) (name sought : List ℕ) (number place : ℕ)
    → IsNumber names name number
    → position (λ other. is_same other sought) names ≡ Some place
    → is_same name sought ≡ (number == place)
same_number names name sought number place is placed =
    elim (cases_Bool (is_same name sought)) [
      | inl same ↦
          let one : name ≡ sought = (bytes_eq-Decides name sought).0 same in
          let also : position (λ other. is_same other sought) names ≡ Some number =
          subst (λ (n : List ℕ). position (λ other. is_same other n) names ≡ Some number) one is.first in
          let equal : number ≡ place = cc in
          grind (arith, nat_tests)
      | inr other ↦ elim (cases_Bool (number == place)) [
        | inl equal ↦
            let at : number ≡ place = grind (arith, nat_tests) in
            let found : is_same (name_at names place) sought ≡ true =
            passes (λ other. is_same other sought) names place [] placed in
            absurd (false≢true (sym other ∙ ap (λ (n : List ℕ). is_same n sought)
            (sym is.named ∙ ap (name_at names) at) ∙ found))
        | inr apart ↦ other ∙ sym apart
      ]
    ]

-- and where the name that is sought is none, it is another
pub no_number : (names : List (List ℕ)) (name sought : List ℕ) (number : ℕ)
    → IsNumber names name number
    → position (λ other. is_same other sought) names ≡ None
    → is_same name sought ≡ false
no_number names name sought number is none =
    elim (cases_Bool (is_same name sought)) [
      | inl same ↦
          let one : name ≡ sought = (bytes_eq-Decides name sought).0 same in
          let also : position (λ other. is_same other sought) names ≡ Some number =
          subst (λ (n : List ℕ). position (λ other. is_same other n) names ≡ Some number) one is.first in
          cc
      | inr other ↦ other
    ]

-- a name that is found has the number of its place
pub IsNumber-found : (names : List (List ℕ)) (name : List ℕ) (place : ℕ)
    → position (λ other. is_same other name) names ≡ Some place
    → IsNumber names name place
IsNumber-found names name place placed = record {
  within = position-short (λ other. is_same other name) names place placed;
  named = (bytes_eq-Decides (name_at names place) name).0 (passes (λ other. is_same other name) names place [] placed);
  first = placed;
}

-- and one that is added that of the end
pub IsNumber-new : (names : List (List ℕ)) (name : List ℕ)
    → position (λ other. is_same other name) names ≡ None
    → IsNumber (names ++ name ∷ []) name (length names)
IsNumber-new names name none = record {
  within = omega (arith, length_push names name);
  named = get_or-append_seam names name [] [];
  first =
      position-new (λ other. is_same other name) names name none ((bytes_eq-Decides name name).1 refl);
}
