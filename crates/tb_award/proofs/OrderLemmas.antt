-- Lines that a sort has put in order.
use Rattle.std.proofs.Common.{◌≡◌, ℕ, zero, suc, ◌+◌, ◌-◌, ◌<◌, ◌≤◌, ◌⊎◌, false, List, length}
use Rattle.std.proofs.Common.{get_or, subst, arith, inl, inr, is_lt, nat_cmp}
use Rattle.std.specs.Ordering.{ordering_then}
use Rattle.std.specs.declared.cmp.Ordering.{Ordering}
use Rattle.std.proofs.lemmas.Bool.Decides.{nat_tests}
use Rattle.tb_units.specs.declared.lines.RateLine.{RateLine}
use Rattle.tb_units.specs.LineOrder.{IsNoLater, AreInOrder}

-- a pair of numbers than which the later pair is not less
not-less : (rate other_rate bidder other_bidder : ℕ)
    → is_lt (ordering_then (nat_cmp other_rate rate) (nat_cmp other_bidder bidder)) ≡ false
    → (rate < other_rate) ⊎ ((rate ≡ other_rate) × (bidder ≤ other_bidder))
not-less rate other_rate bidder other_bidder is = grind (arith, nat_tests)

-- so the one line is no later than the other
not-before : (line next : RateLine)
    → is_lt (ordering_then (nat_cmp next.rate.steps line.rate.steps) (nat_cmp next.bidder line.bidder)) ≡ false
    → IsNoLater line next
not-before line next = not-less line.rate.steps next.rate.steps line.bidder next.bidder

-- what is no later than a line is no later than those behind it
no-later-trans : (first second third : RateLine)
    → IsNoLater first second
    → IsNoLater second third
    → IsNoLater first third
no-later-trans first second third (inl less) (inl more) = inl (omega arith)
no-later-trans first second third (inl less) (inr same) = inl (omega (arith, same.0))
no-later-trans first second third (inr same) (inl more) = inl (omega (arith, same.0))
no-later-trans first second third (inr same) (inr same') =
    inr (omega (arith, same.0, same'.0), omega (arith, same.1, same'.1))

-- each line is no later than the next
abbrev AreNext : List RateLine → Type 0
AreNext lines = (k : ℕ) (d : RateLine) → k + 1 < length lines → IsNoLater (get_or lines k d) (get_or lines (k + 1) d)

-- so it is no later than any behind it
far : (lines : List RateLine)
    → AreNext lines
    → (more k : ℕ) (d : RateLine)
    → k + suc more < length lines
    → IsNoLater (get_or lines k d) (get_or lines (k + suc more) d)
far lines near zero k d below = near k d below
far lines near (suc more) k d below =
    let next : k + suc more + 1 ≡ k + suc (suc more) = omega arith in
    let last : IsNoLater (get_or lines (k + suc more) d) (get_or lines (k + suc (suc more)) d) =
    subst (λ (n : ℕ). IsNoLater (get_or lines (k + suc more) d) (get_or lines n d)) next
    (near (k + suc more) d (omega arith)) in
    no-later-trans (get_or lines k d) (get_or lines (k + suc more) d) (get_or lines (k + suc (suc more)) d)
    (far lines near more k d (omega arith)) last

-- how a line compares with another by rate, and at one rate by bidder
abbrev compared : RateLine → RateLine → Ordering
compared line other = ordering_then (nat_cmp line.rate.steps other.rate.steps) (nat_cmp line.bidder other.bidder)

-- what a sort by rate and bidder ensures
abbrev pub AreSorted : List RateLine → Type 0
AreSorted lines =
    (k : ℕ) (d : RateLine) → 0 ≤ k → k + 1 < length lines
    → is_lt (compared (get_or lines (k + 1) d) (get_or lines k d)) ≡ false

-- sorted lines are in order
pub AreInOrder-sorted : (lines : List RateLine) → AreSorted lines → AreInOrder lines
AreInOrder-sorted lines sorted = λ i j d before below.
    let near : AreNext lines =
    λ k e within. not-before (get_or lines k e) (get_or lines (k + 1) e) (sorted k e (omega arith) within) in
    let place : i + suc (j - (i + 1)) ≡ j = omega arith in
    subst (λ (k : ℕ). IsNoLater (get_or lines i d) (get_or lines k d)) place
    (far lines near (j - (i + 1)) i d (omega arith))
