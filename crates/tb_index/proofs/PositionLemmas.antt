-- The first place that passes a test, as a list grows and shrinks at its end.
use Rattle.std.proofs.Common.{◌≡◌, ℕ, ◌+◌, ◌<◌, ◌≤◌, map, Bool, true, false, not, cond, nat_lt, is_some, Option, Some, None, inl, inr, List, [], ◌∷◌, ◌++◌, refl, sym, ap, ◌∙◌, subst, length, get_or, arith}
use Rattle.std.specs.List.{find, list_any, position, position_or_len, slice_get}
use Rattle.std.specs.Option.{option_or}
use Rattle.std.proofs.lemmas.Bool.{cases_Bool, ltb-true, ltb-false}
use Rattle.std.proofs.lemmas.Bool.Decides.{nat_tests}
use Rattle.std.proofs.lemmas.List.{length_push, length-map}
use Rattle.std.proofs.lemmas.Option.{slice_get-get_or, slice_get_past, slice_get_cases}
use Rattle.std.proofs.lemmas.List.Folds.{find_at, position_or_len_push}
use Rattle.std.proofs.lemmas.List.Sums.{prefix_len-le-length}

-- at a longer list the place is the old one, else the end where the new element passes
pub position-push : {X : Type 0} (p : X → Bool) (xs : List X) (y : X)
    → position p (xs ++ y ∷ []) ≡ option_or (position p xs) (cond (p y) (Some (length xs)) None)
position-push p xs y =
    let last = position_or_len_push p xs y in
    let long = length_push xs y in
    let most : position_or_len p xs ≤ length xs = prefix_len-le-length (λ x. not (p x)) xs in
    grind (arith, nat_tests)

-- a place or none, or else none
or-none : (found : Option ℕ) → option_or found None ≡ found
or-none None = refl
or-none (Some i) = refl

-- where the new element fails, the place is the old one
pub position-other : {X : Type 0} (p : X → Bool) (xs : List X) (y : X)
    → p y ≡ false
    → position p (xs ++ y ∷ []) ≡ position p xs
position-other p xs y fails =
    position-push p xs y
    ∙ (ap (λ b. option_or (position p xs) (cond b (Some (length xs)) None)) fails ∙ or-none (position p xs))

-- a place stays
pub position-stays : {X : Type 0} (p : X → Bool) (xs : List X) (y : X) (i : ℕ)
    → position p xs ≡ Some i
    → position p (xs ++ y ∷ []) ≡ Some i
position-stays p xs y i placed =
    position-push p xs y ∙ ap (λ o. option_or o (cond (p y) (Some (length xs)) None)) placed

-- where none passed, the new element is the first, if it passes
pub position-new : {X : Type 0} (p : X → Bool) (xs : List X) (y : X)
    → position p xs ≡ None
    → p y ≡ true
    → position p (xs ++ y ∷ []) ≡ Some (length xs)
position-new p xs y none passes =
    position-push p xs y
    ∙ (ap (λ o. option_or o (cond (p y) (Some (length xs)) None)) none
    ∙ ap (λ b. cond b (Some (length xs)) None) passes)

-- and still none passes, if it doesn't
pub position-none : {X : Type 0} (p : X → Bool) (xs : List X) (y : X)
    → position p xs ≡ None
    → p y ≡ false
    → position p (xs ++ y ∷ []) ≡ None
position-none p xs y none fails =
    position-push p xs y
    ∙ (ap (λ o. option_or o (cond (p y) (Some (length xs)) None)) none ∙ ap (λ b. cond b (Some (length xs)) None) fails)

-- where none passes in the longer list, none passed before
nothing-before : (found other : Option ℕ)
    → ◌≡◌ {A = Option ℕ} (option_or found other) None
    → ◌≡◌ {A = Option ℕ} found None
nothing-before None other none = refl
nothing-before (Some i) other none = none

pub position-none_before : {X : Type 0} (p : X → Bool) (xs : List X) (y : X)
    → position p (xs ++ y ∷ []) ≡ None
    → position p xs ≡ None
position-none_before p xs y none =
    nothing-before (position p xs) (cond (p y) (Some (length xs)) None) (sym (position-push p xs y) ∙ none)

-- a place in the longer list was there before, where the new element fails
before-some : (found : Option ℕ) (i : ℕ) → option_or found None ≡ Some i → found ≡ Some i
before-some None i none = none
before-some (Some j) i some = some

pub position-before : {X : Type 0} (p : X → Bool) (xs : List X) (y : X) (i : ℕ)
    → position p (xs ++ y ∷ []) ≡ Some i
    → p y ≡ false
    → position p xs ≡ Some i
position-before p xs y i placed fails =
    before-some (position p xs) i
    (ap (λ b. option_or (position p xs) (cond b (Some (length xs)) None)) (sym fails)
    ∙ (sym (position-push p xs y) ∙ placed))

-- or where it isn't the end
before-end : (found : Option ℕ) (passes : Bool) (end i : ℕ)
    → option_or found (cond passes (Some end) None) ≡ Some i
    → (i ≡ end → ⊥)
    → found ≡ Some i
before-end None true end i some apart =
    let e : Some end ≡ Some i = some in
    let same : end ≡ i = cc in
    absurd (apart (sym same))
before-end None false end i some apart = some
before-end (Some j) passes end i some apart = some

pub position-within : {X : Type 0} (p : X → Bool) (xs : List X) (y : X) (i : ℕ)
    → position p (xs ++ y ∷ []) ≡ Some i
    → (i ≡ length xs → ⊥)
    → position p xs ≡ Some i
position-within p xs y i placed apart =
    before-end (position p xs) (p y) (length xs) i (sym (position-push p xs y) ∙ placed) apart

-- a place is within the list
pub position-short : {X : Type 0} (p : X → Bool) (xs : List X) (i : ℕ) → position p xs ≡ Some i → i < length xs
position-short p xs i placed =
    elim (cases_Bool (nat_lt (position_or_len p xs) (length xs))) [
      | inl below ↦
          let found : Some (position_or_len p xs) ≡ Some i = rw below at placed in
          let same : position_or_len p xs ≡ i = cc in
          subst (λ k. k < length xs) same (ltb-true _ _ below)
      | inr past ↦ let wrong : ◌≡◌ {A = Option ℕ} None (Some i) = rw past at placed in cc
    ]

-- no place that is within a list is its end
nothing-before-last : (found : Option ℕ) (passes : Bool) (end : ℕ)
    → ((i : ℕ) → found ≡ Some i → i < end)
    → option_or found (cond passes (Some end) None) ≡ Some end
    → found ≡ None
nothing-before-last None passes end within some = refl
nothing-before-last (Some j) passes end within some =
    let e : Some j ≡ Some end = some in
    let same : j ≡ end = cc in
    absurd (omega (arith, same, within j refl))

-- where the end is the first place, none passed before
pub position-last : {X : Type 0} (p : X → Bool) (xs : List X) (y : X)
    → position p (xs ++ y ∷ []) ≡ Some (length xs)
    → position p xs ≡ None
position-last p xs y placed =
    nothing-before-last (position p xs) (p y) (length xs) (λ i here. position-short p xs i here)
    (sym (position-push p xs y) ∙ placed)

-- the first place of a test that agrees is the same
pub position-agree : {X : Type 0} (p q : X → Bool) (xs : List X) → ((x : X) → p x ≡ q x) → position p xs ≡ position q xs
position-agree p q xs agree = λ i. position (λ x. agree x i) xs

-- a test of what is made of the elements
position_or_len-map : {X Y : Type 0} (p : Y → Bool) (f : X → Y) (xs : List X)
    → position_or_len p (map f xs) ≡ position_or_len (λ x. p (f x)) xs
position_or_len-map p f [] = refl
position_or_len-map p f (x ∷ xs) = ap (λ n. cond (not (p (f x))) (1 + n) 0) (position_or_len-map p f xs)

pub position-map : {X Y : Type 0} (p : Y → Bool) (f : X → Y) (xs : List X)
    → position p (map f xs) ≡ position (λ x. p (f x)) xs
position-map p f xs =
    λ i. cond (nat_lt (position_or_len-map p f xs i) (length-map xs f i)) (Some (position_or_len-map p f xs i)) None

-- the place as a number
position-at : {X : Type 0} (p : X → Bool) (xs : List X) (i : ℕ) → position p xs ≡ Some i → position_or_len p xs ≡ i
position-at p xs i placed =
    elim (cases_Bool (nat_lt (position_or_len p xs) (length xs))) [
      | inl below ↦ let found : Some (position_or_len p xs) ≡ Some i = rw below at placed in cc
      | inr past ↦ let wrong : ◌≡◌ {A = Option ℕ} None (Some i) = rw past at placed in cc
    ]

-- the first element that passes stands at the first place
pub find-placed : {X : Type 0} (p : X → Bool) (xs : List X) (i : ℕ) (x : X)
    → position p xs ≡ Some i
    → x ≡ get_or xs i x
    → find p xs ≡ Some x
find-placed p xs i x placed is =
    find_at p xs
    ∙ (ap (slice_get xs) (position-at p xs i placed)
    ∙ (slice_get-get_or xs i x (position-short p xs i placed) ∙ ap Some (sym is)))

-- and where no place passes there is none
pub find-none : {X : Type 0} (p : X → Bool) (xs : List X) → position p xs ≡ None → find p xs ≡ None
find-none p xs none =
    elim (cases_Bool (nat_lt (position_or_len p xs) (length xs))) [
      | inl below ↦ let wrong : Some (position_or_len p xs) ≡ None = rw below at none in cc
      | inr past ↦
          let beyond : length xs ≤ position_or_len p xs = ltb-false _ _ past in
          find_at p xs ∙ slice_get_past xs (position_or_len p xs) beyond
    ]

-- an element passes just where one is found
find-any : {X : Type 0} (p : X → Bool) (xs : List X) → is_some (find p xs) ≡ list_any p xs
find-any p [] = refl
find-any p (x ∷ xs) =
    elim (cases_Bool (p x)) [
      | inl passes ↦ rw passes refl
      | inr fails ↦ rw fails (find-any p xs)
    ]

-- and just where there is a first place
pub any-placed : {X : Type 0} (p : X → Bool) (xs : List X) → is_some (position p xs) ≡ list_any p xs
any-placed p xs =
    elim (cases_Bool (nat_lt (position_or_len p xs) (length xs))) [
      | inl below ↦
          elim (slice_get_cases xs (position_or_len p xs)).1 [
            | inl has ↦ rw below (sym (ap is_some (find_at p xs ∙ has.2)) ∙ find-any p xs)
            | inr lacks ↦ absurd (omega (arith, lacks.0, ltb-true _ _ below))
          ]
      | inr past ↦
          let none : position p xs ≡ None = rw past refl in
          rw past (sym (ap is_some (find-none p xs none)) ∙ find-any p xs)
    ]
