-- Filters of lists, what is found in a list, and what stands before a place, at it and behind it.
use Rattle.std.proofs.Common.{◌≡◌, ℕ, suc, ◌+◌, ◌<◌, ◌≤◌, Bool, true, false, cond, List, [], ◌∷◌, ◌++◌, length, get_or, take, drop, filter, find, All, AllPairs, sum_by, Some, None, inl, inr, refl, ap, sym, ◌∙◌, append-nil, add-zero, drop-cons, true≢false, arith}
use Rattle.tb_units.specs.Places.{IsPlace}
use Rattle.std.proofs.lemmas.Bool.{cases_Bool, cases_eq, cond-true, cond-false}
use Rattle.std.proofs.lemmas.List.{take-append-drop, get_or-drop, length-drop}
use Rattle.std.proofs.lemmas.List.Elements.{All-head, All-tail, All-cons, All-weaker, All-nil, filter-append}
use Rattle.std.proofs.lemmas.List.Sums.{sum_by-cons}

-- a filter that every element passes keeps the list
pub filter_all : {X : Type 0} (p : X → Bool) (xs : List X) → All (λ x. p x ≡ true) xs → filter p xs ≡ xs
filter_all p [] passes = refl
filter_all p (x ∷ xs) passes =
    let here : p x ≡ true = All-head (λ y. p y ≡ true) x xs passes in
    rw here (ap (λ ys. x ∷ ys) (filter_all p xs (All-tail (λ y. p y ≡ true) x xs passes)))

-- a filter that no element passes leaves nothing
pub filter_none : {X : Type 0} (p : X → Bool) (xs : List X) → All (λ x. p x ≡ false) xs → filter p xs ≡ []
filter_none p [] fails = refl
filter_none p (x ∷ xs) fails =
    let here : p x ≡ false = All-head (λ y. p y ≡ false) x xs fails in
    rw here (filter_none p xs (All-tail (λ y. p y ≡ false) x xs fails))

-- the tests tell, of each element of the list, whether it stands before a place or behind it
pub record IsRanked {X : Type 0} (before behind : X → Bool) (xs : List X) : Type 0 where
  pub apart : (x : X) → behind x ≡ true → before x ≡ false
  pub pairs : AllPairs (λ x y. before x ≡ false → behind y ≡ true) xs

-- what stands before is not behind
not_behind : {X : Type 0} (before behind : X → Bool) (xs : List X)
    → IsRanked before behind xs
    → (x : X)
    → before x ≡ true
    → behind x ≡ false
not_behind before behind xs ranked x is =
    elim (cases_Bool (behind x)) [
      | inl at ↦ absurd (true≢false (sym is ∙ ranked.apart x at))
      | inr not_at ↦ not_at
    ]

-- what follows the place is behind
behind_rest : {X : Type 0} (before behind : X → Bool) (xs : List X) (i : ℕ)
    → IsRanked before behind xs
    → IsPlace before xs i
    → All (λ x. behind x ≡ true) (drop (suc i) xs)
behind_rest before behind xs i ranked place = λ k d short.
    let long : suc i + k < length xs = omega (arith, length-drop (suc i) xs) in
    let read : get_or (drop (suc i) xs) k d ≡ get_or xs (suc i + k) d = get_or-drop (suc i) xs k d in
    rw read (ranked.pairs i (suc i + k) d (omega arith) long (place.stops d (omega arith)))

-- nothing from the place on stands before
none_before_rest : {X : Type 0} (before behind : X → Bool) (xs : List X) (i : ℕ)
    → IsRanked before behind xs
    → IsPlace before xs i
    → All (λ x. before x ≡ false) (drop i xs)
none_before_rest before behind xs i ranked place = λ k d short.
    let long : i + k < length xs = omega (arith, length-drop i xs) in
    let read : get_or (drop i xs) k d ≡ get_or xs (i + k) d = get_or-drop i xs k d in
    rw read (elim (cases_eq k 0) [
      | inl at ↦ rw (at, add-zero) (place.stops d (omega arith))
      | inr later ↦ ranked.apart _ (ranked.pairs i (i + k) d (omega arith) long (place.stops d (omega arith)))
    ])

-- up to the place stands what comes before
pub take-place : {X : Type 0} (before behind : X → Bool) (xs : List X) (i : ℕ)
    → IsRanked before behind xs
    → IsPlace before xs i
    → filter before xs ≡ take i xs
take-place before behind xs i ranked place =
    ap (filter before) (sym (take-append-drop i xs))
    ∙ filter-append before (take i xs) (drop i xs)
    ∙ ap (λ ys. ys ++ filter before (drop i xs)) (filter_all before (take i xs) place.passed)
    ∙ ap (λ ys. take i xs ++ ys) (filter_none before (drop i xs) (none_before_rest before behind xs i ranked place))
    ∙ append-nil (take i xs)

-- what is behind is not among what precedes the place
filter-behind_rest : {X : Type 0} (before behind : X → Bool) (xs : List X) (i : ℕ)
    → IsRanked before behind xs
    → IsPlace before xs i
    → filter behind xs ≡ filter behind (drop i xs)
filter-behind_rest before behind xs i ranked place =
    ap (filter behind) (sym (take-append-drop i xs))
    ∙ filter-append behind (take i xs) (drop i xs)
    ∙ ap (λ ys. ys ++ filter behind (drop i xs))
    (filter_none behind (take i xs)
    (All-weaker _ (λ x. behind x ≡ false) (λ x is. not_behind before behind xs ranked x is) (take i xs) place.passed))

-- where the element at the place is neither, what is behind follows it
pub drop-place_present : {X : Type 0} (before behind : X → Bool) (xs : List X) (i : ℕ)
    → IsRanked before behind xs
    → IsPlace before xs i
    → (d : X)
    → i < length xs
    → behind (get_or xs i d) ≡ false
    → filter behind xs ≡ drop (suc i) xs
drop-place_present before behind xs i ranked place d short at =
    filter-behind_rest before behind xs i ranked place
    ∙ ap (filter behind) (drop-cons xs i d short)
    ∙ ap (λ b. cond b (get_or xs i d ∷ filter behind (drop (suc i) xs)) (filter behind (drop (suc i) xs))) at
    ∙ filter_all behind (drop (suc i) xs) (behind_rest before behind xs i ranked place)

-- where no element is neither, what is behind stands from the place on
pub drop-place_missing : {X : Type 0} (before behind : X → Bool) (xs : List X) (i : ℕ)
    → IsRanked before behind xs
    → IsPlace before xs i
    → ((d : X) → i < length xs → behind (get_or xs i d) ≡ true)
    → filter behind xs ≡ drop i xs
drop-place_missing before behind xs i ranked place at =
    filter-behind_rest before behind xs i ranked place
    ∙ filter_all behind (drop i xs) (λ k d short.
    let long : i + k < length xs = omega (arith, length-drop i xs) in
    let read : get_or (drop i xs) k d ≡ get_or xs (i + k) d = get_or-drop i xs k d in
    rw read (elim (cases_eq k 0) [
      | inl first ↦ rw (first, add-zero) (at d (omega arith))
      | inr later ↦ ranked.pairs i (i + k) d (omega arith) long (place.stops d (omega arith))
    ]))

-- where nothing is found no element passes
pub find_none : {X : Type 0} (p : X → Bool) (xs : List X) → find p xs ≡ None → All (λ x. p x ≡ false) xs
find_none p [] none = All-nil (λ x. p x ≡ false)
find_none p (x ∷ xs) none =
    elim (cases_Bool (p x)) [
      | inl is ↦
          let found : Some x ≡ None = sym (cond-true (p x) (Some x) (find p xs) is) ∙ none in
          absurd (cc)
      | inr fails ↦
          All-cons (λ y. p y ≡ false) x xs fails
          (find_none p xs (sym (cond-false (p x) (Some x) (find p xs) fails) ∙ none))
    ]

-- the part of what is found is within the sum
pub find-le-sum_by : {X : Type 0} (f : X → ℕ) (p : X → Bool) (xs : List X) (x : X)
    → find p xs ≡ Some x
    → f x ≤ sum_by f xs
find-le-sum_by f p [] x found = absurd (cc)
find-le-sum_by f p (y ∷ xs) x found =
    elim (cases_Bool (p y)) [
      | inl is ↦
          let first : Some y ≡ Some x = sym (cond-true (p y) (Some y) (find p xs) is) ∙ found in
          let same : y ≡ x = cc in
          omega (arith, sum_by-cons f y xs, ap f same)
      | inr fails ↦
          omega (
            arith,
            sum_by-cons f y xs,
            find-le-sum_by f p xs x (sym (cond-false (p y) (Some y) (find p xs) fails) ∙ found),
          )
    ]

-- what is found passes
pub find_passes : {X : Type 0} (p : X → Bool) (xs : List X) (x : X) → find p xs ≡ Some x → p x ≡ true
find_passes p [] x found = absurd (cc)
find_passes p (y ∷ xs) x found =
    elim (cases_Bool (p y)) [
      | inl is ↦
          let first : Some y ≡ Some x = sym (cond-true (p y) (Some y) (find p xs) is) ∙ found in
          let same : y ≡ x = cc in
          sym (ap p same) ∙ is
      | inr fails ↦ find_passes p xs x (sym (cond-false (p y) (Some y) (find p xs) fails) ∙ found)
    ]

-- where nothing is found in the first of two lists it is looked for in the second
pub find-append_none : {X : Type 0} (p : X → Bool) (xs ys : List X) → find p xs ≡ None → find p (xs ++ ys) ≡ find p ys
find-append_none p [] ys none = refl
find-append_none p (x ∷ xs) ys none =
    elim (cases_Bool (p x)) [
      | inl is ↦
          let found : Some x ≡ None = sym (cond-true (p x) (Some x) (find p xs) is) ∙ none in
          absurd (cc)
      | inr fails ↦
          cond-false (p x) (Some x) (find p (xs ++ ys)) fails
          ∙ find-append_none p xs ys (sym (cond-false (p x) (Some x) (find p xs) fails) ∙ none)
    ]

-- what is found in the first of two lists is found in both
pub find-append_some : {X : Type 0} (p : X → Bool) (xs ys : List X) (x : X)
    → find p xs ≡ Some x
    → find p (xs ++ ys) ≡ Some x
find-append_some p [] ys x found = absurd (cc)
find-append_some p (y ∷ xs) ys x found =
    elim (cases_Bool (p y)) [
      | inl is ↦ cond-true (p y) (Some y) (find p (xs ++ ys)) is
          ∙ (sym (cond-true (p y) (Some y) (find p xs) is) ∙ found)
      | inr fails ↦
          cond-false (p y) (Some y) (find p (xs ++ ys)) fails
          ∙ find-append_some p xs ys x (sym (cond-false (p y) (Some y) (find p xs) fails) ∙ found)
    ]

-- a filter that keeps all that pass changes nothing of what is found
pub find-filter_all : {X : Type 0} (p q : X → Bool)
    → ((x : X) → p x ≡ true → q x ≡ true)
    → (xs : List X)
    → find p (filter q xs) ≡ find p xs
find-filter_all p q keeps [] = refl
find-filter_all p q keeps (x ∷ xs) =
    elim (cases_Bool (q x)) [
      | inl kept ↦
          ap (find p) (cond-true (q x) (x ∷ filter q xs) (filter q xs) kept)
          ∙ ap (cond (p x) (Some x)) (find-filter_all p q keeps xs)
      | inr dropped ↦
          ap (find p) (cond-false (q x) (x ∷ filter q xs) (filter q xs) dropped)
          ∙ (find-filter_all p q keeps xs
          ∙ sym (cond-false (p x) (Some x) (find p xs)
          (elim (cases_Bool (p x)) [
            | inl is ↦ absurd (true≢false (sym (keeps x is) ∙ dropped))
            | inr fails ↦ fails
          ])))
    ]

-- a filter that drops all that pass leaves nothing to be found
pub find-filter_none : {X : Type 0} (p q : X → Bool)
    → ((x : X) → p x ≡ true → q x ≡ false)
    → (xs : List X)
    → find p (filter q xs) ≡ None
find-filter_none p q drops [] = refl
find-filter_none p q drops (x ∷ xs) =
    elim (cases_Bool (q x)) [
      | inl kept ↦
          let fails : p x ≡ false = elim (cases_Bool (p x)) [
            | inl is ↦ absurd (true≢false (sym kept ∙ drops x is))
            | inr not_p ↦ not_p
          ] in
          ap (find p) (cond-true (q x) (x ∷ filter q xs) (filter q xs) kept)
          ∙ (cond-false (p x) (Some x) (find p (filter q xs)) fails
          ∙ find-filter_none p q drops xs)
      | inr dropped ↦
          ap (find p) (cond-false (q x) (x ∷ filter q xs) (filter q xs) dropped) ∙ find-filter_none p q drops xs
    ]
