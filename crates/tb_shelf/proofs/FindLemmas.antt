-- The first element that passes a test, by its place.
use Rattle.std.proofs.Common.{◌≡◌, ℕ, ◌<◌, ◌≤◌, Bool, nat_lt, Option, Some, None, inl, inr, List, sym, ap, ◌∙◌, subst, length, get_or, arith}
use Rattle.std.specs.List.{find, position, position_or_len, slice_get}
use Rattle.std.proofs.lemmas.Bool.{cases_Bool, ltb-true, ltb-false}
use Rattle.std.proofs.lemmas.List.Folds.{find_at}
use Rattle.std.proofs.lemmas.Option.{slice_get-get_or, slice_get_cases}

-- the place of what is found
pub position-place : {X : Type 0} (p : X → Bool) (xs : List X) (i : ℕ)
    → position p xs ≡ Some i
    → (i < length xs) × (position_or_len p xs ≡ i)
position-place p xs i placed =
    elim (cases_Bool (nat_lt (position_or_len p xs) (length xs))) [
      | inl below ↦
          let found : Some (position_or_len p xs) ≡ Some i = rw below at placed in
          let same : position_or_len p xs ≡ i = cc in
          (subst (λ k. k < length xs) same (ltb-true _ _ below), same)
      | inr past ↦ let wrong : ◌≡◌ {A = Option ℕ} None (Some i) = rw past at placed in cc
    ]

-- the element at that place is the first that passes
pub found_at : {X : Type 0} (p : X → Bool) (xs : List X) (i : ℕ) (x : X)
    → position p xs ≡ Some i
    → x ≡ get_or xs i x
    → find p xs ≡ Some x
found_at p xs i x placed is =
    let place = position-place p xs i placed in
    find_at p xs ∙ (ap (slice_get xs) place.1 ∙ (slice_get-get_or xs i x place.0 ∙ ap Some (sym is)))

-- and where there is no place, none passes
pub found_none : {X : Type 0} (p : X → Bool) (xs : List X) → position p xs ≡ None → find p xs ≡ None
found_none p xs none =
    elim (cases_Bool (nat_lt (position_or_len p xs) (length xs))) [
      | inl below ↦ let wrong : Some (position_or_len p xs) ≡ None = rw below at none in cc
      | inr past ↦
          elim (slice_get_cases xs (position_or_len p xs)).1 [
            | inl has ↦
                let inside : position_or_len p xs < length xs = has.1 in
                let beyond : length xs ≤ position_or_len p xs = ltb-false _ _ past in
                absurd (omega (arith, inside, beyond))
            | inr lacks ↦ find_at p xs ∙ lacks.1
          ]
    ]
