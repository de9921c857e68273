-- Sums of differences, and the front of a list up to the first element that passes a test.
use Rattle.std.proofs.Common.{◌≡◌, ℕ, ◌+◌, ◌-◌, ◌≤◌, Bool, true, false, not, cond, ◌||◌, List, [], ◌∷◌, ◌++◌, map, sum_by, refl, ap, sym, ◌∙◌, inl, inr, arith}
use Rattle.std.specs.List.{list_any, take_while}
use Rattle.std.proofs.lemmas.Bool.{cases_Bool}
use Rattle.std.proofs.lemmas.List.Sums.{sum_by-cons, take_while-cons}
use Rattle.tb_units.proofs.SumLemmas.{sum_by_agree, sum_by_none}

-- a sum of differences, where none is below 0
pub sum_by_minus : {X : Type 0} (f g : X → ℕ)
    → ((x : X) → g x ≤ f x)
    → (xs : List X)
    → sum_by (λ x. f x - g x) xs + sum_by g xs ≡ sum_by f xs
sum_by_minus f g less [] = refl
sum_by_minus f g less (x ∷ xs) =
    omega (
      arith,
      sum_by-cons (λ y. f y - g y) x xs,
      sum_by-cons f x xs,
      sum_by-cons g x xs,
      sum_by_minus f g less xs,
      less x,
    )

-- terms that are all 0 sum to 0
pub sum_by_zero : {X : Type 0} (f : X → ℕ) (xs : List X) → ((x : X) → f x ≡ 0) → sum_by f xs ≡ 0
sum_by_zero f xs none = sum_by_agree f (λ _. 0) xs none ∙ sum_by_none xs

-- a sum over what a function gives at the elements
pub sum_by-mapped : {X Y : Type 0} (f : Y → ℕ) (g : X → Y) (xs : List X)
    → sum_by f (map g xs) ≡ sum_by (λ x. f (g x)) xs
sum_by-mapped f g [] = refl
sum_by-mapped f g (x ∷ xs) =
    omega (arith, sum_by-cons f (g x) (map g xs), sum_by-cons (λ y. f (g y)) x xs, sum_by-mapped f g xs)

-- the front up to the first that passes stays where a list that has one grows
pub take_while-stopped : {X : Type 0} (p : X → Bool) (xs ys : List X)
    → list_any p xs ≡ true
    → take_while (λ x. not (p x)) (xs ++ ys) ≡ take_while (λ x. not (p x)) xs
take_while-stopped p [] ys any = absurd (cc)
take_while-stopped {X} p (x ∷ xs) ys any =
    let q : X → Bool = λ y. not (p y) in
    take_while-cons q x (xs ++ ys)
    ∙ elim (cases_Bool (p x)) [
      | inl passes ↦
          ap (λ b. cond (not b) (x ∷ take_while q (xs ++ ys)) []) passes
          ∙ sym (ap (λ b. cond (not b) (x ∷ take_while q xs) []) passes)
      | inr fails ↦
          let rest : list_any p xs ≡ true = sym (ap (λ b. b || list_any p xs) fails) ∙ any in
          ap (λ zs. cond (q x) (x ∷ zs) []) (take_while-stopped p xs ys rest)
    ]
    ∙ sym (take_while-cons q x xs)

-- of a list that has none it goes on into what follows
pub take_while-passed : {X : Type 0} (p : X → Bool) (xs ys : List X)
    → list_any p xs ≡ false
    → take_while (λ x. not (p x)) (xs ++ ys) ≡ xs ++ take_while (λ x. not (p x)) ys
take_while-passed p [] ys none = refl
take_while-passed {X} p (x ∷ xs) ys none =
    let q : X → Bool = λ y. not (p y) in
    elim (cases_Bool (p x)) [
      | inl passes ↦
          absurd (let said : true ≡ false = sym (ap (λ b. b || list_any p xs) passes) ∙ none in cc)
      | inr fails ↦
          let rest : list_any p xs ≡ false = sym (ap (λ b. b || list_any p xs) fails) ∙ none in
          take_while-cons q x (xs ++ ys)
          ∙ ap (λ b. cond (not b) (x ∷ take_while q (xs ++ ys)) []) fails
          ∙ ap (λ zs. x ∷ zs) (take_while-passed p xs ys rest)
    ]

-- none of the front passes
pub list_any-take_while : {X : Type 0} (p : X → Bool) (xs : List X)
    → list_any p (take_while (λ x. not (p x)) xs) ≡ false
list_any-take_while p [] = refl
list_any-take_while {X} p (x ∷ xs) =
    let q : X → Bool = λ y. not (p y) in
    ap (list_any p) (take_while-cons q x xs)
    ∙ elim (cases_Bool (p x)) [
      | inl passes ↦ ap (λ b. list_any p (cond (not b) (x ∷ take_while q xs) [])) passes
      | inr fails ↦
          ap (λ b. list_any p (cond (not b) (x ∷ take_while q xs) [])) fails
          ∙ ap (λ b. b || list_any p (take_while q xs)) fails
          ∙ list_any-take_while p xs
    ]
