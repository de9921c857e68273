-- Lines that are one line, and lines in order.
use Rattle.std.proofs.Common.{◌≡◌, zero, suc, ◌≤◌, ◌⊎◌, List, [], ◌∷◌, get_or, All, AllPairs}
use Rattle.std.proofs.Common.{subst, refl, ap₂, sym, inl, inr, arith}
use Rattle.std.specs.Prelude.{Contains}
use Rattle.std.proofs.lemmas.List.Elements.{All-head, All-tail}
use Rattle.tb_units.specs.Same.{same_dollars, same_rate}
use Rattle.tb_units.specs.declared.lines.RateLine.{RateLine}
use Rattle.tb_units.proofs.ListLemmas.{AllPairs-head, AllPairs-tail}
use Rattle.tb_award.specs.Cuts.{steps_of}
use Rattle.tb_award.specs.Recognition.{IsEarlier}

-- lines of one rate, one bidder and one amount are one
pub RateLine-same : (one other : RateLine)
    → one.rate ≡ other.rate
    → one.bidder ≡ other.bidder
    → one.amount.value ≡ other.amount.value
    → one ≡ other
RateLine-same one other rate bidder amount =
    λ i. record { rate = rate i; bidder = bidder i; amount = same_dollars one.amount other.amount amount i }

-- or of one rate in steps
pub RateLine-same_steps : (one other : RateLine)
    → one.rate.steps ≡ other.rate.steps
    → one.bidder ≡ other.bidder
    → one.amount.value ≡ other.amount.value
    → one ≡ other
RateLine-same_steps one other steps = RateLine-same one other (same_rate one.rate other.rate steps)

-- no line is earlier than itself, nor are two lines each earlier than the other
IsEarlier-apart : (one other : RateLine) → IsEarlier one other → ¬ (IsEarlier other one)
IsEarlier-apart one other (inl less) (inl more) = omega arith
IsEarlier-apart one other (inl less) (inr at) = omega (arith, at.0)
IsEarlier-apart one other (inr at) (inl less) = omega (arith, at.0)
IsEarlier-apart one other (inr at) (inr at') = omega (arith, at.1, at'.1)

-- an element of a list is its first or one of the rest
first-or-rest : (x line : RateLine) (lines : List RateLine) → Contains (line ∷ lines) x → (line ≡ x) ⊎ Contains lines x
first-or-rest x line lines (zero, below, is) = inl is
first-or-rest x line lines (suc k, below, is) = inr (k, omega arith, is)

-- an element of the rest is later than the first
later-rest : (x line : RateLine) (lines : List RateLine)
    → AllPairs IsEarlier (line ∷ lines)
    → Contains lines x
    → IsEarlier line x
later-rest x line lines order has =
    subst (IsEarlier line) has.2 (AllPairs-head IsEarlier line lines order has.0 x has.1)

-- where the firsts are one, what is in the one list's rest is in the other's
rest-in : (line : RateLine) (lines others : List RateLine)
    → AllPairs IsEarlier (line ∷ lines)
    → All (Contains (line ∷ others)) (line ∷ lines)
    → All (Contains others) lines
rest-in line lines others order within = λ k d below.
    let x : RateLine = get_or lines k d in
    elim (first-or-rest x line others (All-tail (Contains (line ∷ others)) line lines within k d below)) [
      | inl same ↦
          (let later : IsEarlier line x = AllPairs-head IsEarlier line lines order k d below in
          let itself : IsEarlier line line = subst (IsEarlier line) (sym same) later in
          absurd (IsEarlier-apart line line itself itself))
      | inr has ↦ has
    ]

-- lists in order that have the same lines are one list
pub in_order-same : (one other : List RateLine)
    → AllPairs IsEarlier one
    → AllPairs IsEarlier other
    → All (Contains other) one
    → All (Contains one) other
    → one ≡ other
in_order-same [] [] order order' within within' = refl
in_order-same [] (line ∷ other) order order' within within' =
    absurd (let has : Contains [] line = All-head (Contains []) line other within' in omega (arith, has.1))
in_order-same (line ∷ one) [] order order' within within' =
    absurd (let has : Contains [] line = All-head (Contains []) line one within in omega (arith, has.1))
in_order-same (line ∷ one) (first ∷ other) order order' within within' =
    let same : line ≡ first = first-same line first one other order order'
    (All-head (Contains (first ∷ other)) line one within) (All-head (Contains (line ∷ one)) first other within') in
    let order'' : AllPairs IsEarlier (line ∷ other) =
    subst (λ (l : RateLine). AllPairs IsEarlier (l ∷ other)) (sym same) order' in
    let in_other : All (Contains (line ∷ other)) (line ∷ one) =
    subst (λ (l : RateLine). All (Contains (l ∷ other)) (line ∷ one)) (sym same) within in
    let in_one : All (Contains (line ∷ one)) (line ∷ other) =
    subst (λ (l : RateLine). All (Contains (line ∷ one)) (l ∷ other)) (sym same) within' in
    ap₂ (λ l ls. l ∷ ls) same
    (in_order-same one other (AllPairs-tail IsEarlier line one order) (AllPairs-tail IsEarlier line other order'')
    (rest-in line one other order in_other) (rest-in line other one order'' in_one))
  where
    -- the first lines are one: neither list has a line before the first of the other
    first-same : (line first : RateLine) (one other : List RateLine)
        → AllPairs IsEarlier (line ∷ one)
        → AllPairs IsEarlier (first ∷ other)
        → Contains (first ∷ other) line
        → Contains (line ∷ one) first
        → line ≡ first
    first-same line first one other order order' has has' = elim (first-or-rest line first other has) [
      | inl same ↦ sym same
      | inr after ↦ elim (first-or-rest first line one has') [
        | inl same ↦ same
        | inr after' ↦
            absurd (IsEarlier-apart line first (later-rest first line one order after')
            (later-rest line first other order' after))
      ]
    ]

-- strictly ordered lines are in order of rate
pub IsEarlier-by_rate : (one other : RateLine) → IsEarlier one other → steps_of one ≤ steps_of other
IsEarlier-by_rate one other (inl less) = omega arith
IsEarlier-by_rate one other (inr at) = omega (arith, at.0)
