-- Lists over which all sums are the same have the same elements in some order.
use Rattle.std.proofs.Common.{◌≡◌, ℕ, ◌<◌, ◌==◌, ◌&&◌, suc, Bool, true, false, cond, Option, Some, None, inl, inr, List, [], ◌∷◌, length, get_or, sum_by, refl, ap, arith}
use Rattle.std.specs.Prelude.{IsPermutation}
use Rattle.std.specs.List.{remove}
use Rattle.std.proofs.lemmas.Bool.{and_from, and_parts, cases_Bool, eq-eqb, eqb-true}
use Rattle.std.proofs.lemmas.List.Sums.{sum_by-cons}
use Rattle.std.proofs.lemmas.List.Sorted.{IsPermutation-cons, IsPermutation-refl, IsPermutation-remove, IsPermutation-sym, IsPermutation-trans, sum_by-IsPermutation}
use Rattle.tb_units.specs.declared.rate.Rate.{Rate}
use Rattle.tb_units.specs.Same.{same_dollars, same_rate}
use Rattle.tb_book.specs.declared.book_line.BookLine.{BookLine}

-- where elements that pass are counted, one passes
counted : {X : Type 0} (test : X → Bool) (xs : List X) (d : X)
    → 0 < sum_by (λ x. cond (test x) 1 0) xs
    → (k : ℕ) × (k < length xs) × (test (get_or xs k d) ≡ true)
counted {X} test [] d some = absurd (omega (arith, some))
counted {X} test (x ∷ xs) d some =
    let f : X → ℕ = λ x. cond (test x) 1 0 in
    elim (cases_Bool (test x)) [
      | inl is ↦ (0, omega arith, is)
      | inr fails ↦
          let none : f x ≡ 0 = ap (λ b. cond b 1 0) fails in
          let rest = counted test xs d (omega (arith, some, sum_by-cons f x xs, none)) in
          (suc rest.0, omega (arith, rest.1), rest.2)
    ]

-- an empty list has sums of nothing alone
emptied : {X : Type 0} (one : X → ℕ) (ys : List X)
    → ((y : X) → one y ≡ 1) → sum_by one [] ≡ sum_by one ys → IsPermutation [] ys
emptied one [] is sums = IsPermutation-refl []
emptied one (y ∷ ys) is sums = absurd (omega (arith, sums, sum_by-cons one y ys, is y))

-- where a test tells elements apart, lists with the same sums are one in another order
pub IsPermutation-sums : {X : Type 0} (same : X → X → Bool)
    → ((x y : X) → same x y ≡ true → x ≡ y)
    → ((x : X) → same x x ≡ true)
    → (xs ys : List X)
    → ((f : X → ℕ) → sum_by f xs ≡ sum_by f ys)
    → IsPermutation xs ys
IsPermutation-sums {X} same equal own [] ys sums =
    let one : X → ℕ = λ y. 1 in
    emptied one ys (λ y. refl) (sums one)
IsPermutation-sums {X} same equal own (x ∷ xs) ys sums =
    let f : X → ℕ = λ y. cond (same x y) 1 0 in
    let one : f x ≡ 1 = ap (λ b. cond b 1 0) (own x) in
    let place = counted (same x) ys x (omega (arith, sums f, sum_by-cons f x xs, one)) in
    let left = remove ys place.0 in
    let moved : IsPermutation ys (x ∷ left) =
    IsPermutation-remove ys place.0 x place.1 (equal x (get_or ys place.0 x) place.2) in
    IsPermutation-trans (x ∷ xs) (x ∷ left) ys
    (IsPermutation-cons x xs left
    (IsPermutation-sums same equal own xs left
    (λ g. omega (arith, sums g, sum_by-cons g x xs, sum_by-cons g x left, sum_by-IsPermutation g ys (x ∷ left) moved))))
    (IsPermutation-sym ys (x ∷ left) moved)

-- rates are told apart by their steps
abbrev same_rates : Option Rate → Option Rate → Bool
same_rates None None = true
same_rates None (Some other) = false
same_rates (Some one) None = false
same_rates (Some one) (Some other) = one.steps == other.steps

-- and are one where no step does
same_rates-equal : (one other : Option Rate) → same_rates one other ≡ true → one ≡ other
same_rates-equal None None same = refl
same_rates-equal None (Some other) same = cc
same_rates-equal (Some one) None same = cc
same_rates-equal (Some one) (Some other) same = ap Some (same_rate one other (eqb-true one.steps other.steps same))

-- a rate is itself
same_rates-own : (rate : Option Rate) → same_rates rate rate ≡ true
same_rates-own None = refl
same_rates-own (Some rate) = eq-eqb rate.steps rate.steps refl

-- lines are told apart by what they have
abbrev same_line : BookLine → BookLine → Bool
same_line one other =
    (one.bidder == other.bidder) && ((one.number == other.number)
    && (same_rates one.rate other.rate && (one.amount.value == other.amount.value)))

-- and are one where that is the same
same_line-equal : (one other : BookLine) → same_line one other ≡ true → one ≡ other
same_line-equal one other same =
    let first = and_parts (one.bidder == other.bidder) ((one.number == other.number)
    && (same_rates one.rate other.rate && (one.amount.value == other.amount.value))) same in
    let second = and_parts (one.number == other.number)
    (same_rates one.rate other.rate && (one.amount.value == other.amount.value)) first.1 in
    let third = and_parts (same_rates one.rate other.rate) (one.amount.value == other.amount.value) second.1 in
    let bidder = eqb-true one.bidder other.bidder first.0 in
    let number = eqb-true one.number other.number second.0 in
    let rate = same_rates-equal one.rate other.rate third.0 in
    let amount : one.amount ≡ other.amount =
    same_dollars one.amount other.amount (eqb-true one.amount.value other.amount.value third.1) in
    λ i. record { bidder = bidder i; number = number i; rate = rate i; amount = amount i }

-- a line is itself
same_line-own : (line : BookLine) → same_line line line ≡ true
same_line-own line =
    and_from (line.bidder == line.bidder) _ (eq-eqb line.bidder line.bidder refl)
    (and_from (line.number == line.number) _ (eq-eqb line.number line.number refl)
    (and_from (same_rates line.rate line.rate) (line.amount.value == line.amount.value) (same_rates-own line.rate)
    (eq-eqb line.amount.value line.amount.value refl)))

-- a line in front of both lists can be left out
pub IsPermutation-rest : (line : BookLine) (one other : List BookLine)
    → IsPermutation (line ∷ one) (line ∷ other) → IsPermutation one other
IsPermutation-rest line one other moved =
    IsPermutation-sums same_line same_line-equal same_line-own one other
    (λ f. omega (
      arith,
      sum_by-cons f line one,
      sum_by-cons f line other,
      sum_by-IsPermutation f (line ∷ one) (line ∷ other) moved,
    ))
