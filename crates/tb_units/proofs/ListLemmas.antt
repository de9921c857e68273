-- What holds of each element of a list, and of each two of them.
use Rattle.std.proofs.Common.{◌≡◌, ℕ, zero, suc, ◌+◌, ◌-◌, ◌≤◌, Bool, true, List, [], ◌∷◌, ◌++◌, map, length, filter, All, AllPairs, inl, inr, sym, subst, arith}
use Rattle.std.specs.List.{insert, AllWithin}
use Rattle.std.specs.List.Sorted.{IsPermutation}
use Rattle.std.proofs.lemmas.Bool.{cases_order}
use Rattle.std.proofs.lemmas.List.Edits.{length-insert, get_or-insert_below, get_or-insert_at, get_or-insert_above}
use Rattle.std.proofs.lemmas.List.Elements.{All-head, All-tail, All-cons, All-append, All-weaker, All-map, All-nil, filter_passes}
use Rattle.std.proofs.lemmas.List.Kept.{AllPairs-cons, AllPairs-filter}
use Rattle.std.proofs.lemmas.List.Sorted.{IsPermutation-middle, IsPermutation-sym}
use Rattle.tb_units.specs.Places.{HasOneMore}

-- what holds of each element of two lists together holds of each of the first
pub All-front : {X : Type 0} (P : X → Type 0) (front back : List X) → All P (front ++ back) → All P front
All-front P [] back all = All-nil P
All-front P (x ∷ front) back all =
    All-cons P x front (All-head P x (front ++ back) all) (All-front P front back (All-tail P x (front ++ back) all))

-- and of each of the second
pub All-back : {X : Type 0} (P : X → Type 0) (front back : List X) → All P (front ++ back) → All P back
All-back P [] back all = all
All-back P (x ∷ front) back all = All-back P front back (All-tail P x (front ++ back) all)

-- what holds of an element and of each of a list holds of each of the list with the element put in
pub All-one_more : {X : Type 0} (P : X → Type 0) (x : X) (shorter longer : List X)
    → HasOneMore x shorter longer
    → P x
    → All P shorter
    → All P longer
All-one_more P x shorter longer more here all =
    let parts : All P (more.front ++ more.back) = subst (All P) more.without all in
    subst (All P) (sym more.whole)
    (All-append P more.front (x ∷ more.back)
    (All-front P more.front more.back parts)
    (All-cons P x more.back here (All-back P more.front more.back parts)))

-- what holds of each of a list holds of each of the list with an element taken out
pub All-one_less : {X : Type 0} (P : X → Type 0) (x : X) (shorter longer : List X)
    → HasOneMore x shorter longer
    → All P longer
    → All P shorter
All-one_less P x shorter longer more all =
    let parts : All P (more.front ++ x ∷ more.back) = subst (All P) more.whole all in
    subst (All P) (sym more.without)
    (All-append P more.front more.back
    (All-front P more.front (x ∷ more.back) parts)
    (All-tail P x more.back (All-back P more.front (x ∷ more.back) parts)))

-- and it holds of that element
pub All-one : {X : Type 0} (P : X → Type 0) (x : X) (shorter longer : List X)
    → HasOneMore x shorter longer
    → All P longer
    → P x
All-one P x shorter longer more all =
    All-head P x more.back (All-back P more.front (x ∷ more.back) (subst (All P) more.whole all))

-- the list with an element put in has that element and those that it had, in some order
pub IsPermutation-one_more : {X : Type 0} (x : X) (shorter longer : List X)
    → HasOneMore x shorter longer
    → IsPermutation (x ∷ shorter) longer
IsPermutation-one_more x shorter longer more =
    subst (λ list. IsPermutation (x ∷ list) longer) (sym more.without)
    (subst (IsPermutation (x ∷ (more.front ++ more.back))) (sym more.whole)
    (IsPermutation-sym _ _ (IsPermutation-middle more.front x more.back)))

-- the first element is so related to each of the rest
pub AllPairs-head : {X : Type 0} (R : X → X → Type 0) (x : X) (xs : List X) → AllPairs R (x ∷ xs) → All (R x) xs
AllPairs-head R x xs pairs = λ k d short. pairs zero (suc k) d (omega arith) (omega arith)

-- each two of the rest are so related
pub AllPairs-tail : {X : Type 0} (R : X → X → Type 0) (x : X) (xs : List X) → AllPairs R (x ∷ xs) → AllPairs R xs
AllPairs-tail R x xs pairs = λ i j d earlier short. pairs (suc i) (suc j) d (omega arith) (omega arith)

-- there are no two elements in the empty list
pub AllPairs-nil : {X : Type 0} (R : X → X → Type 0) → AllPairs R []
AllPairs-nil R = λ i j d earlier short. absurd (omega arith)

-- nor in a list of one
pub AllPairs-one : {X : Type 0} (R : X → X → Type 0) (x : X) → AllPairs R (x ∷ [])
AllPairs-one R x = λ i j d earlier short. absurd (omega arith)

-- each two of two lists, where those of each are so related and each of the first with each of the second
pub AllPairs-append : {X : Type 0} (R : X → X → Type 0) (xs ys : List X)
    → AllPairs R xs
    → AllPairs R ys
    → All (λ x. All (R x) ys) xs
    → AllPairs R (xs ++ ys)
AllPairs-append R [] ys front back across = back
AllPairs-append R (x ∷ xs) ys front back across =
    AllPairs-cons R x (xs ++ ys)
    (All-append (R x) xs ys (AllPairs-head R x xs front) (All-head (λ y. All (R y) ys) x xs across))
    (AllPairs-append R xs ys (AllPairs-tail R x xs front) back (All-tail (λ y. All (R y) ys) x xs across))

-- each two of what a function gives at the elements
pub AllPairs-map : {X : Type 0} (R : X → X → Type 0) (f : X → X) (xs : List X)
    → AllPairs (λ x y. R (f x) (f y)) xs
    → AllPairs R (map f xs)
AllPairs-map R f [] pairs = AllPairs-nil R
AllPairs-map R f (x ∷ xs) pairs =
    AllPairs-cons R (f x) (map f xs)
    (All-map (R (f x)) f xs (AllPairs-head (λ y z. R (f y) (f z)) x xs pairs))
    (AllPairs-map R f xs (AllPairs-tail (λ y z. R (f y) (f z)) x xs pairs))

-- a list stays in order where elements are put between what stands before and what stands behind
pub AllPairs-put : {X : Type 0} (R : X → X → Type 0) (before behind : X → Bool) (middle xs : List X)
    → AllPairs R xs
    → AllPairs R middle
    → ((x y : X) → before x ≡ true → behind y ≡ true → R x y)
    → All (λ y. (x : X) → before x ≡ true → R x y) middle
    → All (λ x. (y : X) → behind y ≡ true → R x y) middle
    → AllPairs R (filter before xs ++ (middle ++ filter behind xs))
AllPairs-put R before behind middle xs pairs among across below above =
    AllPairs-append R (filter before xs) (middle ++ filter behind xs)
    (AllPairs-filter R before xs pairs)
    (AllPairs-append R middle (filter behind xs) among (AllPairs-filter R behind xs pairs)
    (All-weaker (λ x. (y : _) → behind y ≡ true → R x y) (λ x. All (R x) (filter behind xs))
    (λ x leads. All-weaker (λ y. behind y ≡ true) (R x) leads (filter behind xs) (filter_passes behind xs)) middle
    above))
    (All-weaker (λ x. before x ≡ true) (λ x. All (R x) (middle ++ filter behind xs))
    (λ x is. All-append (R x) middle (filter behind xs)
    (All-weaker (λ y. (z : _) → before z ≡ true → R z y) (R x) (λ y follows. follows x is) middle below)
    (All-weaker (λ y. behind y ≡ true) (R x) (λ y at. across x y is at) (filter behind xs) (filter_passes behind xs)))
    (filter before xs) (filter_passes before xs))

-- an element put between those that relate to it and those that it relates to
pub AllPairs-insert : {X : Type 0} (R : X → X → Type 0) (xs : List X) (i : ℕ) (y : X) → i ≤ length xs
    → AllPairs R xs
    → AllWithin (λ x. R x y) xs 0 i
    → AllWithin (R y) xs i (length xs)
    → AllPairs R (insert xs i y)
AllPairs-insert R xs i y within pairs before behind = λ a b d earlier short.
    let more : length (insert xs i y) ≡ length xs + 1 = length-insert xs i y within in
    elim (cases_order b i) [
      | inl at ↦ rw (at, get_or-insert_at xs i y d within, get_or-insert_below xs i y d a (omega arith) within)
          (before a d (omega arith) (omega arith))
      | inr (inl below) ↦ rw (
        get_or-insert_below xs i y d a (omega arith) within,
        get_or-insert_below xs i y d b
            below within,
      )
          (pairs a b d earlier (omega arith))
      | inr (inr above) ↦
          let last : b ≡ (b - 1) + 1 = omega arith in
          elim (cases_order a i) [
            | inl at ↦ rw (
              at,
              last,
              get_or-insert_at xs i y d within,
              get_or-insert_above xs i y d (b - 1)
                  (omega arith) within,
            )
                (behind (b - 1) d (omega arith) (omega arith))
            | inr (inl below) ↦ rw (
              get_or-insert_below xs i y d a below within,
              last,
              get_or-insert_above xs i y d
                  (b - 1) (omega arith) within,
            )
                (pairs a (b - 1) d (omega arith) (omega arith))
            | inr (inr later) ↦
                let first : a ≡ (a - 1) + 1 = omega arith in
                rw (
                  first,
                  last,
                  get_or-insert_above xs i y d (a - 1) (omega arith) within,
                  get_or-insert_above xs i y
                      d (b - 1) (omega arith) within,
                )
                (pairs (a - 1) (b - 1) d (omega arith) (omega arith))
          ]
    ]
