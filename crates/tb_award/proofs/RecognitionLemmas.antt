-- What is recognised: one list, in hundreds, and of no bidder more than its limit. For callers too.
use Rattle.std.proofs.Common.{◌≡◌, ℕ, ℤ, pos, zero, suc, ◌+◌, ◌-◌, ◌%◌, ◌≤◌, ◌==◌, ◌&&◌, ◌⊎◌, Bool}
use Rattle.std.proofs.Common.{true, false, cond, List, [], ◌∷◌, length, get_or, All, AllPairs}
use Rattle.std.proofs.Common.{subst, refl, ap, ap₂, sym, ◌∙◌, inl, inr, arith}
use Rattle.std.specs.Prelude.{Contains, min, slice_index_or}
use Rattle.std.proofs.lemmas.Bool.{cases_eq, cases_lt, eq-eqb, ne_eqb}
use Rattle.std.proofs.lemmas.List.Elements.{All-head, All-tail}
use Rattle.std.proofs.lemmas.List.Sums.{sum_by-cons}
use Rattle.tb_units.specs.declared.lines.RateLine.{RateLine}
use Rattle.tb_units.proofs.ListLemmas.{AllPairs-head, AllPairs-tail}
use Rattle.tb_award.specs.Awards.{IsInHundreds}
use Rattle.tb_award.specs.Limits.{cap_of, counted, in_hundreds, limit_of}
use Rattle.tb_award.specs.Recognition.{AreRecognised, HasLineOf, IsEarlier, IsRecognised, IsRecognitionOf, bid_in}
use Rattle.tb_award.specs.Recognition.{capped, let_through, limits_by, recognised_at, recognised_of, sum_under}
use Rattle.tb_award.proofs.BidLemmas.{bid_of, let_through-more}
use Rattle.tb_award.proofs.LineLemmas.{RateLine-same_steps, in_order-same}

-- a recognised line of the one list is in the other
recognised-in : (bids : ℕ → ℕ → ℕ) (cap : ℕ) (limits : ℕ → ℕ) (bidders : ℕ) (one other : List RateLine)
    → AreRecognised bids cap limits bidders one
    → AreRecognised bids cap limits bidders other
    → All (Contains other) one
recognised-in bids cap limits bidders one other are are' = λ k d below.
    let line : RateLine = get_or one k d in
    let is : IsRecognised bids cap limits bidders line = are.each k d below in
    let has : HasLineOf line.bidder line.rate.steps other =
    are'.all line.bidder line.rate.steps is.known (omega (arith, is.some, is.amount)) in
    let found : RateLine = get_or other has.0 line in
    let there : IsRecognised bids cap limits bidders found = are'.each has.0 line has.1 in
    let same = has.2 line in
    (has.0, has.1, one-line found line there.amount is.amount same.0 same.1)
  where
    -- lines of one bidder at one rate that are recognised are one
    one-line : (found line : RateLine)
        → found.amount.value ≡ recognised_at (bids found.bidder) cap (limits found.bidder) found.rate.steps
        → line.amount.value ≡ recognised_at (bids line.bidder) cap (limits line.bidder) line.rate.steps
        → found.bidder ≡ line.bidder
        → found.rate.steps ≡ line.rate.steps
        → found ≡ line
    one-line found line there here bidder steps =
        let at : ℕ → ℕ → ℕ = λ b s. recognised_at (bids b) cap (limits b) s in
        let same : at found.bidder found.rate.steps ≡ at line.bidder line.rate.steps = ap₂ at bidder steps in
        RateLine-same_steps found line steps bidder (omega (arith, there, here, same))

-- there is one recognised list
pub AreRecognised-one : (bids : ℕ → ℕ → ℕ) (cap : ℕ) (limits : ℕ → ℕ) (bidders : ℕ) (one other : List RateLine)
    → AreRecognised bids cap limits bidders one
    → AreRecognised bids cap limits bidders other
    → one ≡ other
AreRecognised-one bids cap limits bidders one other are are' =
    in_order-same one other are.order are'.order
    (recognised-in bids cap limits bidders one other are are')
    (recognised-in bids cap limits bidders other one are' are)

-- a limit is in hundreds
pub limit_of-hundreds : (offering : ℕ) (position : ℤ) → limit_of offering position % 100 ≡ 0
limit_of-hundreds offering position = hundreds (cap_of offering - counted position)
  where
    -- what is rounded down is in hundreds
    hundreds : (amount : ℕ) → in_hundreds amount % 100 ≡ 0
    hundreds amount = omega arith

-- at most the cap
pub limit_of-le : (offering : ℕ) (position : ℤ) → limit_of offering position ≤ cap_of offering
limit_of-le offering position = within (cap_of offering) (counted position)
  where
    -- and no more than it was
    within : (cap less : ℕ) → in_hundreds (cap - less) ≤ cap
    within cap less = omega arith

-- bids in hundreds add up to hundreds, or pass the cap where one of them is cut to it
sum_under-hundreds : (bids : ℕ → ℕ) (cap steps : ℕ)
    → ((n : ℕ) → bids n % 100 ≡ 0)
    → (sum_under (capped bids cap) steps % 100 ≡ 0) ⊎ (cap ≤ sum_under (capped bids cap) steps)
sum_under-hundreds bids cap zero hundreds = inl refl
sum_under-hundreds bids cap (suc steps) hundreds =
    let here : bids steps % 100 ≡ 0 = hundreds steps in
    elim (cases_lt cap (bids steps)) [
      | inl cut ↦ inr (omega (arith, cut))
      | inr within ↦ elim (sum_under-hundreds bids cap steps hundreds) [
        | inl before ↦ inl (omega (arith, here, within, before))
        | inr passed ↦ inr (omega (arith, passed))
      ]
    ]

-- so what a limit in hundreds lets through is in hundreds
let_through-hundreds : (bids : ℕ → ℕ) (cap limit steps : ℕ)
    → limit % 100 ≡ 0
    → limit ≤ cap
    → ((n : ℕ) → bids n % 100 ≡ 0)
    → let_through bids cap limit steps % 100 ≡ 0
let_through-hundreds bids cap limit steps limit_hundreds within hundreds =
    elim (sum_under-hundreds bids cap steps hundreds) [
      | inl sum ↦ min-hundreds limit (sum_under (capped bids cap) steps) limit_hundreds sum
      | inr passed ↦
          (let all : let_through bids cap limit steps ≡ limit = omega (arith, passed, within) in all_hundreds all)
    ]
  where
    -- the less of two amounts in hundreds is in hundreds
    min-hundreds : (a b : ℕ) → a % 100 ≡ 0 → b % 100 ≡ 0 → min a b % 100 ≡ 0
    min-hundreds a b first second = elim (cases_lt a b) [
      | inl less ↦ (let is : min a b ≡ a = omega arith in ap (λ n. n % 100) is ∙ first)
      | inr more ↦ (let is : min a b ≡ b = omega arith in ap (λ n. n % 100) is ∙ second)
    ]

    -- where the whole limit is let through, that is in hundreds
    all_hundreds : let_through bids cap limit steps ≡ limit → let_through bids cap limit steps % 100 ≡ 0
    all_hundreds is = ap (λ n. n % 100) is ∙ limit_hundreds

-- what is recognised of bids in hundreds is in hundreds
pub recognised_at-hundreds : (bids : ℕ → ℕ) (cap limit steps : ℕ)
    → limit % 100 ≡ 0
    → limit ≤ cap
    → ((n : ℕ) → bids n % 100 ≡ 0)
    → recognised_at bids cap limit steps % 100 ≡ 0
recognised_at-hundreds bids cap limit steps limit_hundreds within hundreds =
    difference (let_through bids cap limit (suc steps)) (let_through bids cap limit steps)
    (let_through-hundreds bids cap limit (suc steps) limit_hundreds within hundreds)
    (let_through-hundreds bids cap limit steps limit_hundreds within hundreds)
  where
    -- so is their difference
    difference : (a b : ℕ) → a % 100 ≡ 0 → b % 100 ≡ 0 → (a - b) % 100 ≡ 0
    difference a b first second = omega arith

-- lines in hundreds bid hundreds for each bidder at each rate
bid_in-hundreds : (lines : List RateLine) (bidder steps : ℕ)
    → All IsInHundreds lines
    → bid_in lines bidder steps % 100 ≡ 0
bid_in-hundreds [] bidder steps all = refl
bid_in-hundreds (line ∷ lines) bidder steps all =
    let here : bid_of bidder steps line % 100 ≡ 0 =
    part-hundreds ((line.bidder == bidder) && (line.rate.steps == steps)) line.amount.value
    (All-head IsInHundreds line lines all) in
    let rest : bid_in lines bidder steps % 100 ≡ 0 =
    bid_in-hundreds lines bidder steps (All-tail IsInHundreds line lines all) in
    let parts : bid_in (line ∷ lines) bidder steps ≡ bid_of bidder steps line + bid_in lines bidder steps =
    sum_by-cons (bid_of bidder steps) line lines in
    omega (arith, here, rest, parts)
  where
    -- and an amount that may count as nothing
    part-hundreds : (b : Bool) (n : ℕ) → n % 100 ≡ 0 → cond b n 0 % 100 ≡ 0
    part-hundreds true n hundreds = hundreds
    part-hundreds false n hundreds = refl

-- so what is recognised of them is in hundreds
pub IsRecognitionOf-hundreds : (lines : List RateLine) (positions : List ℤ) (offering : ℕ) (recognised : List RateLine)
    → All IsInHundreds lines
    → IsRecognitionOf lines positions offering recognised
    → All IsInHundreds recognised
IsRecognitionOf-hundreds lines positions offering recognised hundreds are = λ k d below.
    let line : RateLine = get_or recognised k d in
    let is : IsRecognised (bid_in lines) (cap_of offering) (limits_by offering positions) (length positions) line =
    are.each k d below in
    let position = slice_index_or positions line.bidder (pos 0) in
    ap (λ n. n % 100) is.amount
    ∙ recognised_at-hundreds (bid_in lines line.bidder) (cap_of offering) (limit_of offering position) line.rate.steps
    (limit_of-hundreds offering position) (limit_of-le offering position)
    (λ n. bid_in-hundreds lines line.bidder n hundreds)

-- at most the limit is let through
let_through-le : (bids : ℕ → ℕ) (cap limit steps : ℕ) → let_through bids cap limit steps ≤ limit
let_through-le bids cap limit steps = omega arith

-- and at a higher rate no less
let_through-rises : (bids : ℕ → ℕ) (cap limit low more : ℕ)
    → let_through bids cap limit low ≤ let_through bids cap limit (more + low)
let_through-rises bids cap limit low zero =
    let same : low ≡ 0 + low = omega arith in
    subst (λ (n : ℕ). let_through bids cap limit low ≤ let_through bids cap limit n) same (omega arith)
let_through-rises bids cap limit low (suc more) =
    let step : suc more + low ≡ suc (more + low) = omega arith in
    rw step (omega (arith, let_through-rises bids cap limit low more, let_through-more bids cap limit (more + low)))

-- what is recognised of a bidder from a rate on is within what its limit still lets through there
from-rate : (bids : ℕ → ℕ → ℕ) (cap : ℕ) (limits : ℕ → ℕ) (bidders bidder low : ℕ) (lines : List RateLine)
    → AllPairs IsEarlier lines
    → All (IsRecognised bids cap limits bidders) lines
    → All (λ line. line.bidder ≡ bidder → low ≤ line.rate.steps) lines
    → recognised_of bidder lines + let_through (bids bidder) cap (limits bidder) low ≤ limits bidder
from-rate bids cap limits bidders bidder low [] order each from = omega arith
from-rate bids cap limits bidders bidder low (line ∷ lines) order each from =
    let IsFrom : ℕ → RateLine → Type 0 = λ low' l. l.bidder ≡ bidder → low' ≤ l.rate.steps in
    let part : RateLine → ℕ = λ l. cond (l.bidder == bidder) l.amount.value 0 in
    let parts = sum_by-cons part line lines in
    let order' = AllPairs-tail IsEarlier line lines order in
    let each' = All-tail (IsRecognised bids cap limits bidders) line lines each in
    elim (cases_eq line.bidder bidder) [
      | inl own ↦
          (let rate = line.rate.steps in
          let behind : All (IsFrom (suc rate)) lines = λ k d below same.
          above-rate line (get_or lines k d) (AllPairs-head IsEarlier line lines order k d below) (own ∙ sym same) in
          let rest = from-rate bids cap limits bidders bidder (suc rate) lines order' each' behind in
          let is : IsRecognised bids cap limits bidders line =
          All-head (IsRecognised bids cap limits bidders) line lines each in
          let amount : line.amount.value ≡ recognised_at (bids bidder) cap (limits bidder) rate =
          is.amount ∙ ap (λ b. recognised_at (bids b) cap (limits b) rate) own in
          let counts : part line ≡ line.amount.value =
          ap (λ b. cond b line.amount.value 0) (eq-eqb line.bidder bidder own) in
          let more = let_through-more (bids bidder) cap (limits bidder) rate in
          let low_rate : low ≤ rate = All-head (IsFrom low) line lines from own in
          let rises : let_through (bids bidder) cap (limits bidder) low
          ≤ let_through (bids bidder) cap (limits bidder) rate =
          rises-to (bids bidder) cap (limits bidder) low rate low_rate in
          omega (arith, parts, counts, amount, rest, more, rises))
      | inr other ↦
          (let counts : part line ≡ 0 = ap (λ b. cond b line.amount.value 0) (ne_eqb line.bidder bidder other) in
          let rest = from-rate bids cap limits bidders bidder low lines order' each'
          (All-tail (IsFrom low) line lines from) in
          omega (arith, parts, counts, rest))
    ]
  where
    -- no less is let through up to a higher rate
    rises-to : (bids : ℕ → ℕ) (cap limit low high : ℕ)
        → low ≤ high
        → let_through bids cap limit low ≤ let_through bids cap limit high
    rises-to bids cap limit low high within =
        let sum : (high - low) + low ≡ high = omega arith in
        subst (λ (n : ℕ). let_through bids cap limit low ≤ let_through bids cap limit n) sum
        (let_through-rises bids cap limit low (high - low))

    -- a later line of the same bidder is at a higher rate
    above-rate : (one other : RateLine)
        → IsEarlier one other
        → one.bidder ≡ other.bidder
        → suc one.rate.steps ≤ other.rate.steps
    above-rate one other (inl less) same = omega arith
    above-rate one other (inr at) same = absurd (omega (arith, at.1))

-- what is recognised of a bidder is at most its limit
pub recognised_of-le : (bids : ℕ → ℕ → ℕ) (cap : ℕ) (limits : ℕ → ℕ) (bidders bidder : ℕ) (lines : List RateLine)
    → AreRecognised bids cap limits bidders lines
    → recognised_of bidder lines ≤ limits bidder
recognised_of-le bids cap limits bidders bidder lines are =
    let within = from-rate bids cap limits bidders bidder 0 lines are.order are.each (λ k d below own. omega arith) in
    omega (arith, within)
