-- What a part of a list says, and when it says what the whole list does.
use Rattle.std.proofs.Common.{◌≡◌, Bool, true, false, ◌||◌, cond, if◌then◌else◌, Some}
use Rattle.std.proofs.Common.{inl, inr, List, [], ◌∷◌, ◌++◌, refl, ap, ◌∙◌}
use Rattle.std.specs.List.{find, filter, flat_map, list_any, AllByRecursion}
use Rattle.std.proofs.lemmas.Bool.{cases_Bool, cond-true, cond-false, both_ways}
use Rattle.std.proofs.lemmas.List.Elements.{filter-append}

-- a list says what its part does where the rest says nothing
pub flat_map-filter : {X Y : Type 0} (says : X → List Y) (part : X → Bool) (xs : List X)
    → AllByRecursion (λ x. part x ≡ false → says x ≡ []) xs
    → flat_map says (filter part xs) ≡ flat_map says xs
flat_map-filter says part [] quiet = refl
flat_map-filter says part (x ∷ xs) quiet =
    let rest = flat_map-filter says part xs quiet.1 in
    elim (cases_Bool (part x)) [
      | inl is ↦ rw is (ap (λ ys. says x ++ ys) rest)
      | inr not ↦ rw (not, quiet.0 not) rest
    ]

-- what the part says is a part of what the list says
pub flat_map-filtered : {X Y : Type 0} (says : X → List Y) (part : X → Bool) (among : Y → Bool)
    → ((x : X) → filter among (says x) ≡ cond (part x) (says x) [])
    → (xs : List X)
    → flat_map says (filter part xs) ≡ filter among (flat_map says xs)
flat_map-filtered says part among alike [] = refl
flat_map-filtered says part among alike (x ∷ xs) =
    let rest = flat_map-filtered says part among alike xs in
    elim (cases_Bool (part x)) [
      | inl is ↦ let same : filter among (says x) ≡ says x = alike x ∙ cond-true (part x) (says x) [] is in
          rw (is, filter-append, same, rest) refl
      | inr not ↦ let same : filter among (says x) ≡ [] = alike x ∙ cond-false (part x) (says x) [] not in
          rw (not, filter-append, same, rest) refl
    ]

-- a test keeps of a part what it keeps of the list where all that passes is in the part
pub filter-filter : {X : Type 0} (test part : X → Bool) (xs : List X)
    → AllByRecursion (λ x. test x ≡ true → part x ≡ true) xs
    → filter test (filter part xs) ≡ filter test xs
filter-filter test part [] within = refl
filter-filter test part (x ∷ xs) within =
    let rest = filter-filter test part xs within.1 in
    elim (cases_Bool (part x)) [
      | inl is ↦ rw is (ap (λ ys. cond (test x) (x ∷ ys) ys) rest)
      | inr not ↦ elim (cases_Bool (test x)) [
        | inl passes ↦ absurd (both_ways (part x) not (within.0 passes))
        | inr fails ↦ rw (not, fails) rest
      ]
    ]

-- it holds of one of them
pub list_any-filter : {X : Type 0} (test part : X → Bool) (xs : List X)
    → AllByRecursion (λ x. test x ≡ true → part x ≡ true) xs
    → list_any test (filter part xs) ≡ list_any test xs
list_any-filter test part [] within = refl
list_any-filter test part (x ∷ xs) within =
    let rest = list_any-filter test part xs within.1 in
    elim (cases_Bool (part x)) [
      | inl is ↦ rw is (ap (λ b. test x || b) rest)
      | inr not ↦ elim (cases_Bool (test x)) [
        | inl passes ↦ absurd (both_ways (part x) not (within.0 passes))
        | inr fails ↦ rw (not, fails) rest
      ]
    ]

-- and it finds the same
pub find-filter : {X : Type 0} (test part : X → Bool) (xs : List X)
    → AllByRecursion (λ x. test x ≡ true → part x ≡ true) xs
    → find test (filter part xs) ≡ find test xs
find-filter test part [] within = refl
find-filter test part (x ∷ xs) within =
    let rest = find-filter test part xs within.1 in
    elim (cases_Bool (part x)) [
      | inl is ↦ rw is (ap (λ found. if test x then Some x else found) rest)
      | inr not ↦ elim (cases_Bool (test x)) [
        | inl passes ↦ absurd (both_ways (part x) not (within.0 passes))
        | inr fails ↦ rw (not, fails) rest
      ]
    ]

-- two tests that agree on the elements keep the same of them
pub filter-agree : {X : Type 0} (one other : X → Bool) (xs : List X)
    → AllByRecursion (λ x. one x ≡ other x) xs
    → filter one xs ≡ filter other xs
filter-agree one other [] alike = refl
filter-agree one other (x ∷ xs) alike = rw (alike.0, filter-agree one other xs alike.1) refl

-- what holds of everything holds of every element
pub AllByRecursion-from : {X : Type 0} (P : X → Type 0) → ((x : X) → P x) → (xs : List X) → AllByRecursion P xs
AllByRecursion-from P holds [] = tt
AllByRecursion-from P holds (x ∷ xs) = (holds x, AllByRecursion-from P holds xs)

-- what follows of each element follows of all
pub AllByRecursion-weaker : {X : Type 0} (P Q : X → Type 0)
    → ((x : X) → P x → Q x)
    → (xs : List X)
    → AllByRecursion P xs
    → AllByRecursion Q xs
AllByRecursion-weaker P Q weaker [] holds = tt
AllByRecursion-weaker P Q weaker (x ∷ xs) holds = (weaker x holds.0, AllByRecursion-weaker P Q weaker xs holds.1)

-- what holds of two lists holds of both behind one another
pub AllByRecursion-append : {X : Type 0} (P : X → Type 0) (xs ys : List X)
    → AllByRecursion P xs
    → AllByRecursion P ys
    → AllByRecursion P (xs ++ ys)
AllByRecursion-append P [] ys first later = later
AllByRecursion-append P (x ∷ xs) ys first later = (first.0, AllByRecursion-append P xs ys first.1 later)

-- what holds of all that passes a test holds of all that is kept
pub AllByRecursion-filter : {X : Type 0} (P : X → Type 0) (test : X → Bool) (xs : List X)
    → AllByRecursion (λ x. test x ≡ true → P x) xs
    → AllByRecursion P (filter test xs)
AllByRecursion-filter P test [] holds = tt
AllByRecursion-filter P test (x ∷ xs) holds =
    let rest = AllByRecursion-filter P test xs holds.1 in
    elim (cases_Bool (test x)) [ inl passes ↦ rw passes (holds.0 passes, rest) | inr fails ↦ rw fails rest ]

-- and of each of them
pub AllByRecursion-front : {X : Type 0} (P : X → Type 0) (xs ys : List X)
    → AllByRecursion P (xs ++ ys)
    → AllByRecursion P xs
AllByRecursion-front P [] ys all = tt
AllByRecursion-front P (x ∷ xs) ys all = (all.0, AllByRecursion-front P xs ys all.1)

-- of those behind too
pub AllByRecursion-back : {X : Type 0} (P : X → Type 0) (xs ys : List X)
    → AllByRecursion P (xs ++ ys)
    → AllByRecursion P ys
AllByRecursion-back P [] ys all = all
AllByRecursion-back P (x ∷ xs) ys all = AllByRecursion-back P xs ys all.1
