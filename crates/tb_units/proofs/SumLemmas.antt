-- Sums over lists: over what a filter keeps, and where elements are put in or taken out.
use Rattle.std.proofs.Common.{◌≡◌, ℕ, ◌+◌, ◌≤◌, Bool, true, false, cond, List, [], ◌∷◌, ◌++◌, map, filter, sum_by, refl, ap, sym, ◌∙◌, zero-add, arith}
use Rattle.std.proofs.lemmas.List.Sums.{sum_by-cons, sum_by-append}
use Rattle.tb_units.specs.Places.{HasOneMore}

-- a number that counts only under a test is at most that number
pub cond-le : (b : Bool) (n : ℕ) → cond b n 0 ≤ n
cond-le true n = omega arith
cond-le false n = omega arith

-- the sum over a list with an element put in has the element's part more
pub sum_by-one_more : {X : Type 0} (f : X → ℕ) (x : X) (shorter longer : List X)
    → HasOneMore x shorter longer
    → sum_by f longer ≡ sum_by f shorter + f x
sum_by-one_more f x shorter longer more =
    omega (
      arith,
      ap (sum_by f) more.without,
      ap (sum_by f) more.whole,
      sum_by-append f more.front more.back,
      sum_by-append f more.front (x ∷ more.back),
      sum_by-cons f x more.back,
    )

-- the sum of what a filter keeps has the first element's part where the element passes
pub sum_by-filter-cons : {X : Type 0} (f : X → ℕ) (p : X → Bool) (x : X) (xs : List X)
    → sum_by f (filter p (x ∷ xs)) ≡ cond (p x) (f x) 0 + sum_by f (filter p xs)
sum_by-filter-cons f p x xs =
    elim (p x) as (λ b. sum_by f (cond b (x ∷ filter p xs) (filter p xs)) ≡ cond b (f x) 0 + sum_by f (filter p xs)) [
      | true ↦ sum_by-cons f x (filter p xs)
      | false ↦ sym (zero-add (sum_by f (filter p xs)))
    ]

-- the sum of what a filter keeps is the sum over all, of nothing where an element doesn't pass
pub sum_by-filter : {X : Type 0} (f : X → ℕ) (p : X → Bool) (xs : List X)
    → sum_by f (filter p xs) ≡ sum_by (λ x. cond (p x) (f x) 0) xs
sum_by-filter f p [] = refl
sum_by-filter f p (x ∷ xs) =
    sum_by-filter-cons f p x xs
    ∙ ap (λ n. cond (p x) (f x) 0 + n) (sum_by-filter f p xs)
    ∙ sym (sum_by-cons (λ y. cond (p y) (f y) 0) x xs)

-- sums of functions that agree are equal
pub sum_by_agree : {X : Type 0} (f g : X → ℕ) (xs : List X) → ((x : X) → f x ≡ g x) → sum_by f xs ≡ sum_by g xs
sum_by_agree f g xs same = λ i. sum_by (λ x. same x i) xs

-- a sum of nothings is nothing
pub sum_by_none : {X : Type 0} (xs : List X) → sum_by (λ (x : X). 0) xs ≡ 0
sum_by_none [] = refl
sum_by_none (x ∷ xs) = sum_by-cons (λ _. 0) x xs ∙ (zero-add _ ∙ sum_by_none xs)

-- a sum over what a function gives at the elements
pub sum_by-map : {X : Type 0} (f : X → ℕ) (g : X → X) (xs : List X) → sum_by f (map g xs) ≡ sum_by (λ x. f (g x)) xs
sum_by-map f g [] = refl
sum_by-map f g (x ∷ xs) =
    sum_by-cons f (g x) (map g xs)
    ∙ ap (λ n. f (g x) + n) (sum_by-map f g xs)
    ∙ sym (sum_by-cons (λ y. f (g y)) x xs)

-- each element stands before a place, at it or behind it, and only in one of these ways
abbrev pub StandsOnce : {X : Type 0} → (before at behind : X → Bool) → Type 0
StandsOnce {X} before at behind = (x : X) → cond (before x) 1 0 + cond (at x) 1 0 + cond (behind x) 1 0 ≡ 1

-- a number stands once in its three parts, where one of the tests holds
shares : (a b c : Bool) (n : ℕ)
    → cond a 1 0 + cond b 1 0 + cond c 1 0 ≡ 1
    → cond a n 0 + cond b n 0 + cond c n 0 ≡ n
shares true true c n once =
    absurd (elim c as (λ v. 1 + 1 + cond v 1 0 ≡ 1 → ⊥) [ true ↦ λ e. omega arith | false ↦ λ e. omega arith ] once)
shares true false true n once = absurd (omega arith)
shares true false false n once = omega arith
shares false true true n once = absurd (omega arith)
shares false true false n once = omega arith
shares false false true n once = omega arith
shares false false false n once = absurd (omega arith)

-- the sums over what stands before a place, at it and behind it are that over the list
pub sum_by_parts : {X : Type 0} (f : X → ℕ) (before at behind : X → Bool)
    → StandsOnce before at behind
    → (xs : List X)
    → sum_by f (filter before xs) + sum_by f (filter at xs) + sum_by f (filter behind xs) ≡ sum_by f xs
sum_by_parts f before at behind once [] = refl
sum_by_parts f before at behind once (x ∷ xs) =
    omega (
      arith,
      sum_by-filter-cons f before x xs,
      sum_by-filter-cons f at x xs,
      sum_by-filter-cons f behind x xs,
      sum_by-cons f x xs,
      shares (before x) (at x) (behind x) (f x) (once x),
      sum_by_parts f before at behind once xs,
    )

-- the sum after elements are put at a place, in the stead of what stood there
pub sum_by-put : {X : Type 0} (f : X → ℕ) (before at behind : X → Bool)
    → StandsOnce before at behind
    → (middle xs : List X)
    → sum_by f (filter before xs ++ (middle ++ filter behind xs)) + sum_by f (filter at xs) ≡ sum_by f xs
    + sum_by f middle
sum_by-put f before at behind once middle xs =
    omega (
      arith,
      sum_by-append f (filter before xs) (middle ++ filter behind xs),
      sum_by-append f middle (filter behind xs),
      sum_by_parts f before at behind once xs,
    )
