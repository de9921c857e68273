-- Awards of lines: one for each, no more than is recognised, and how close they come to what is sought. For callers
-- too.
use Rattle.std.proofs.Common.{◌≡◌, ℕ, zero, suc, ◌+◌, ◌-◌, ◌*◌, ◌%◌, ◌<◌, ◌≤◌, ◌^◌, ◌==◌, cond, List, [], ◌∷◌, ◌++◌}
use Rattle.std.proofs.Common.{length, get_or, All, subst, refl, ap, ap₂, sym, ◌∙◌, inl, inr, mul-add, arith}
use Rattle.std.proofs.lemmas.Bool.{cases_order, cases_lt, eq-eqb, lt-ltb, ne_eqb}
use Rattle.std.proofs.lemmas.List.Elements.{All-head, All-tail}
use Rattle.std.proofs.lemmas.List.Sums.{sum_by-cons, sum_by_push, sum_by-le-sum_by}
use Rattle.std.proofs.Math.Nat.{mul-le-mul_right, suc-mul}
use Rattle.tb_units.specs.declared.rate.Rate.{Rate}
use Rattle.tb_units.specs.declared.lines.RateLine.{RateLine}
use Rattle.tb_units.proofs.SumLemmas.{cond-le}
use Rattle.tb_award.specs.Awards.{AreAwards, AreClose, AreWithin, IsAward, IsInHundreds}
use Rattle.tb_award.specs.Awards.{IsProrated, awarded_to, lines_at}
use Rattle.tb_award.specs.Cuts.{amount_of, at, hundred_percent, over, par_of, steps_of}
use Rattle.tb_award.specs.Cuts.{total_of, under, up_to, FallsShort, Reaches}
use Rattle.tb_award.proofs.CutLemmas.{par_of-agree, par_of-zero, share, share-no, share-yes, under-next, under-no}
use Rattle.tb_award.proofs.LineLemmas.{RateLine-same}

-- the sum with a line more
pub total_of_push : (lines : List RateLine) (line : RateLine)
    → total_of (lines ++ line ∷ []) ≡ total_of lines + amount_of line
total_of_push lines line = sum_by_push amount_of lines line

-- a bidder's awards with one award more
pub awarded_to_push : (bidder : ℕ) (awards : List RateLine) (award : RateLine)
    → awarded_to bidder (awards ++ award ∷ [])
    ≡ awarded_to bidder awards + cond (award.bidder == bidder) award.amount.value 0
awarded_to_push bidder awards award =
    sum_by_push (λ (a : RateLine). cond (a.bidder == bidder) a.amount.value 0) awards award

-- a bidder's awards are at most all awards
pub awarded_to-le : (bidder : ℕ) (awards : List RateLine) → awarded_to bidder awards ≤ total_of awards
awarded_to-le bidder awards =
    sum_by-le-sum_by (λ (a : RateLine). cond (a.bidder == bidder) a.amount.value 0) amount_of awards
    (λ a. cond-le (a.bidder == bidder) a.amount.value)

-- one line and its award more
pub AreAwards_push : (stop percent : ℕ) (lines awards : List RateLine) (line award : RateLine)
    → AreAwards stop percent lines awards
    → award.rate ≡ line.rate
    → award.bidder ≡ line.bidder
    → IsAward stop percent line.rate.steps line.amount.value award.amount.value
    → AreAwards stop percent (lines ++ line ∷ []) (awards ++ award ∷ [])
AreAwards_push stop percent [] [] line award are rate bidder is = (rate, bidder, is, tt)
AreAwards_push stop percent (l ∷ lines) (a ∷ awards) line award are rate bidder is =
    (are.0, are.1, are.2, AreAwards_push stop percent lines awards line award are.3 rate bidder is)
AreAwards_push stop percent [] (a ∷ awards) line award are rate bidder is = absurd are
AreAwards_push stop percent (l ∷ lines) [] line award are rate bidder is = absurd are

-- there are as many awards as lines
pub length-awards : (stop percent : ℕ) (lines awards : List RateLine)
    → AreAwards stop percent lines awards
    → length awards ≡ length lines
length-awards stop percent [] [] are = refl
length-awards stop percent (line ∷ lines) (award ∷ awards) are = ap suc (length-awards stop percent lines awards are.3)
length-awards stop percent [] (award ∷ awards) are = absurd are
length-awards stop percent (line ∷ lines) [] are = absurd are

-- the award at a place is that of the line there
pub AreAwards-at : (stop percent : ℕ) (lines awards : List RateLine)
    → AreAwards stop percent lines awards
    → (k : ℕ) (d e : RateLine)
    → k < length lines
    → ((get_or awards k e).rate ≡ (get_or lines k d).rate)
    × IsAward stop percent (get_or lines k d).rate.steps (get_or lines k d).amount.value
    (get_or awards k e).amount.value
AreAwards-at stop percent [] [] are k d e below = absurd (omega arith)
AreAwards-at stop percent (line ∷ lines) (award ∷ awards) are zero d e below = (are.0, are.2)
AreAwards-at stop percent (line ∷ lines) (award ∷ awards) are (suc k) d e below =
    AreAwards-at stop percent lines awards are.3 k d e (omega arith)
AreAwards-at stop percent [] (award ∷ awards) are k d e below = absurd are
AreAwards-at stop percent (line ∷ lines) [] are k d e below = absurd are

-- one amount is the least multiple of 100 that reaches the percentage
IsProrated-one : (percent amount one other : ℕ)
    → IsProrated percent amount one
    → IsProrated percent amount other
    → one ≡ other
IsProrated-one percent amount one other is is' =
    let low : one ≤ other = is.least other is'.hundreds is'.enough in
    let high : other ≤ one = is'.least one is.hundreds is.enough in
    omega arith

-- there is one award of an amount at a rate
pub IsAward-one : (stop percent steps amount one other : ℕ)
    → IsAward stop percent steps amount one
    → IsAward stop percent steps amount other
    → one ≡ other
IsAward-one stop percent steps amount one other is is' = elim (cases_order steps stop) [
  | inl same ↦ IsProrated-one percent amount one other (is.prorated same) (is'.prorated same)
  | inr (inl less) ↦ is.whole less ∙ sym (is'.whole less)
  | inr (inr more) ↦ is.nothing more ∙ sym (is'.nothing more)
]

-- there is one list of awards of lines
pub AreAwards-one : (stop percent : ℕ) (lines one other : List RateLine)
    → AreAwards stop percent lines one
    → AreAwards stop percent lines other
    → one ≡ other
AreAwards-one stop percent [] [] [] are are' = refl
AreAwards-one stop percent (line ∷ lines) (a ∷ one) (b ∷ other) are are' =
    let amount =
    IsAward-one stop percent line.rate.steps line.amount.value a.amount.value b.amount.value are.2 are'.2 in
    ap₂ (λ l ls. l ∷ ls) (RateLine-same a b (are.0 ∙ sym are'.0) (are.1 ∙ sym are'.1) amount)
    (AreAwards-one stop percent lines one other are.3 are'.3)
AreAwards-one stop percent [] [] (b ∷ other) are are' = absurd are'
AreAwards-one stop percent [] (a ∷ one) other are are' = absurd are
AreAwards-one stop percent (line ∷ lines) [] other are are' = absurd are
AreAwards-one stop percent (line ∷ lines) (a ∷ one) [] are are' = absurd are'

-- an amount in hundreds is enough for a percentage of at most 100, so the award is no more
IsProrated-within : (percent amount award : ℕ)
    → percent ≤ hundred_percent
    → amount % 100 ≡ 0
    → IsProrated percent amount award
    → award ≤ amount
IsProrated-within percent amount award small hundreds is =
    is.least amount hundreds (mul-le-mul_right amount small)

-- at 100.00 percent it is the amount
IsProrated-whole : (amount award : ℕ) → amount % 100 ≡ 0 → IsProrated hundred_percent amount award → award ≡ amount
IsProrated-whole amount award hundreds is =
    let low : award ≤ amount = IsProrated-within hundred_percent amount award (omega arith) hundreds is in
    omega (arith, low, is.enough)

-- the award is under the exact share plus 100 dollars
pub IsProrated-close : (percent amount award : ℕ)
    → IsProrated percent amount award
    → hundred_percent * award < percent * amount + 10 ^ 6
IsProrated-close percent amount award is = elim (cases_lt award 100) [
  | inl small ↦ omega (arith, is.hundreds)
  | inr more ↦ elim (cases_lt (hundred_percent * (award - 100)) (percent * amount)) [
    | inl less ↦ omega (arith, less, more)
    | inr enough ↦
        (let fewer : award ≤ award - 100 = is.least (award - 100) (omega (arith, is.hundreds)) enough in
        absurd (omega arith))
  ]
]

-- no award of an amount in hundreds is more than the amount
pub IsAward-within : (stop percent steps amount award : ℕ)
    → percent ≤ hundred_percent
    → amount % 100 ≡ 0
    → IsAward stop percent steps amount award
    → award ≤ amount
IsAward-within stop percent steps amount award small hundreds is = elim (cases_order steps stop) [
  | inl same ↦ IsProrated-within percent amount award small hundreds (is.prorated same)
  | inr (inl less) ↦ omega (arith, is.whole less)
  | inr (inr more) ↦ omega (arith, is.nothing more)
]

-- no award of any amount is more than it by 100 dollars
pub award-le : (stop percent steps amount award : ℕ)
    → percent ≤ hundred_percent
    → IsAward stop percent steps amount award
    → award ≤ amount + 100
award-le stop percent steps amount award small is = elim (cases_order steps stop) [
  | inl same ↦ omega (arith, IsProrated-close percent amount award (is.prorated same), mul-le-mul_right amount small)
  | inr (inl less) ↦ omega (arith, is.whole less)
  | inr (inr more) ↦ omega (arith, is.nothing more)
]

-- all awards are at most what is recognised and 100 dollars for each line
pub awards-le : (stop percent : ℕ) (lines awards : List RateLine)
    → percent ≤ hundred_percent
    → AreAwards stop percent lines awards
    → total_of awards ≤ total_of lines + 100 * length lines
awards-le stop percent [] [] small are = omega arith
awards-le stop percent (line ∷ lines) (award ∷ awards) small are =
    omega (
      arith,
      sum_by-cons amount_of line lines,
      sum_by-cons amount_of award awards,
      award-le stop percent line.rate.steps line.amount.value award.amount.value small are.2,
      awards-le stop percent lines awards small are.3,
    )
awards-le stop percent [] (award ∷ awards) small are = absurd are
awards-le stop percent (line ∷ lines) [] small are = absurd are

-- no award is above what is recognised, where that is in hundreds
pub AreAwards-within : (stop percent : ℕ) (lines awards : List RateLine)
    → percent ≤ hundred_percent
    → All IsInHundreds lines
    → AreAwards stop percent lines awards
    → AreWithin lines awards
AreAwards-within stop percent [] [] small hundreds are = tt
AreAwards-within stop percent (line ∷ lines) (award ∷ awards) small hundreds are =
    let here = All-head IsInHundreds line lines hundreds in (
      IsAward-within stop percent line.rate.steps line.amount.value award.amount.value small here are.2,
      AreAwards-within stop percent lines awards small (All-tail IsInHundreds line lines hundreds) are.3,
    )
AreAwards-within stop percent [] (award ∷ awards) small hundreds are = absurd are
AreAwards-within stop percent (line ∷ lines) [] small hundreds are = absurd are

-- and so is their sum
pub total-within : (lines awards : List RateLine) → AreWithin lines awards → total_of awards ≤ total_of lines
total-within [] [] within = omega arith
total-within (line ∷ lines) (award ∷ awards) within =
    omega (
      arith,
      sum_by-cons amount_of line lines,
      sum_by-cons amount_of award awards,
      within.0,
      total-within lines awards within.1,
    )
total-within [] (award ∷ awards) within = absurd within
total-within (line ∷ lines) [] within = absurd within

-- what is awarded and recognised at the stop, line by line: the awards are what is recognised under the stop, and more
-- than the percentage of what is recognised at it by less than 100 dollars for each line there
pub record AreSplit (stop percent : ℕ) (lines awards : List RateLine) : Type 0 where
  pub total : total_of awards ≡ par_of lines (under stop) + par_of awards (at stop)
  pub enough : percent * par_of lines (at stop) ≤ hundred_percent * par_of awards (at stop)
  pub close : hundred_percent * par_of awards (at stop) + lines_at stop lines
      ≤ percent * par_of lines (at stop) + 10 ^ 6 * lines_at stop lines

-- a line counts one where it stands at the stop
abbrev count_of : ℕ → RateLine → ℕ
count_of stop line = cond (steps_of line == stop) 1 0

-- what one line adds to the sums, by where it stands
record AddsLine (stop percent : ℕ) (line award : RateLine) : Type 0 where
  total : amount_of award ≡ share (under stop) line + share (at stop) award
  enough : percent * share (at stop) line ≤ hundred_percent * share (at stop) award
  close : hundred_percent * share (at stop) award + count_of stop line
      ≤ percent * share (at stop) line + 10 ^ 6 * count_of stop line

-- an award adds so
AddsLine-award : (stop percent : ℕ) (line award : RateLine)
    → award.rate ≡ line.rate
    → IsAward stop percent line.rate.steps line.amount.value award.amount.value
    → AddsLine stop percent line award
AddsLine-award stop percent line award rate is =
    let steps : steps_of award ≡ steps_of line = ap (λ (r : Rate). r.steps) rate in
    elim (cases_order (steps_of line) stop) [
      | inl same ↦
          (let line_at = share-yes (at stop) line (eq-eqb (steps_of line) stop same) in
          let award_at = share-yes (at stop) award (eq-eqb (steps_of award) stop (steps ∙ same)) in
          let line_under = share-no (under stop) line (under-no stop (steps_of line) (omega arith)) in
          let counted : count_of stop line ≡ 1 = ap (λ b. cond b 1 0) (eq-eqb (steps_of line) stop same) in
          let product : percent * share (at stop) line ≡ percent * amount_of line = ap (λ n. percent * n) line_at in
          let prorated = is.prorated same in
          let close = IsProrated-close percent line.amount.value award.amount.value prorated in
          record {
            total = omega (arith, line_under, award_at);
            enough = omega (arith, prorated.enough, product, award_at);
            close = omega (arith, close, product, award_at, counted);
          })
      | inr apart ↦
          (let other : steps_of line ≡ stop → ⊥ =
          λ same. elim apart [ inl less ↦ omega arith | inr more ↦ omega arith ] in
          let line_at = share-no (at stop) line (ne_eqb (steps_of line) stop other) in
          let award_at = share-no (at stop) award (ne_eqb (steps_of award) stop (λ same. other (sym steps ∙ same))) in
          let counted : count_of stop line ≡ 0 = ap (λ b. cond b 1 0) (ne_eqb (steps_of line) stop other) in
          let product : percent * share (at stop) line ≡ percent * 0 = ap (λ n. percent * n) line_at in
          let amount : amount_of award ≡ share (under stop) line = elim apart [
            | inl less ↦ is.whole less ∙ sym (share-yes (under stop) line (lt-ltb (steps_of line) stop less))
            | inr more ↦
                is.nothing more ∙ sym (share-no (under stop) line (under-no stop (steps_of line) (omega arith)))
          ] in
          record {
            total = omega (arith, amount, award_at);
            enough = omega (arith, product, award_at);
            close = omega (arith, product, award_at, counted);
          })
    ]

-- the sums of all lines
pub AreSplit-awards : (stop percent : ℕ) (lines awards : List RateLine)
    → AreAwards stop percent lines awards
    → AreSplit stop percent lines awards
AreSplit-awards stop percent [] [] are = record { total = refl; enough = omega arith; close = omega arith }
AreSplit-awards stop percent (line ∷ lines) (award ∷ awards) are =
    let here = AddsLine-award stop percent line award are.0 are.2 in
    let rest = AreSplit-awards stop percent lines awards are.3 in
    let all_awards = sum_by-cons amount_of award awards in
    let under_stop = sum_by-cons (share (under stop)) line lines in
    let lines_stop = sum_by-cons (share (at stop)) line lines in
    let awards_stop = sum_by-cons (share (at stop)) award awards in
    let count = sum_by-cons (count_of stop) line lines in
    let shared : percent * par_of (line ∷ lines) (at stop)
    ≡ percent * share (at stop) line + percent * par_of lines (at stop) =
    ap (λ n. percent * n) lines_stop ∙ mul-add percent (share (at stop) line) (par_of lines (at stop)) in
    record {
      total = omega (arith, here.total, rest.total, all_awards, under_stop, awards_stop);
      enough = omega (arith, here.enough, rest.enough, shared, awards_stop);
      close = omega (arith, here.close, rest.close, shared, awards_stop, count);
    }
AreSplit-awards stop percent [] (award ∷ awards) are = absurd are
AreSplit-awards stop percent (line ∷ lines) [] are = absurd are

-- what is recognised under the stop falls short of the amount sought
below-stop : (lines : List RateLine) (sought stop percent : ℕ)
    → 0 < sought
    → Reaches (par_of lines) sought stop percent
    → par_of lines (under stop) < sought
below-stop lines sought zero percent some is =
    let none : par_of lines (under 0) ≡ 0 =
    par_of-zero (under 0) lines (λ k d below. under-no 0 (steps_of (get_or lines k d)) (omega arith)) in
    omega arith
below-stop lines sought (suc stop) percent some is =
    let same : par_of lines (under (suc stop)) ≡ par_of lines (up_to stop) =
    par_of-agree (under (suc stop)) (up_to stop) lines (λ steps. under-next stop steps) in
    elim (cases_lt (par_of lines (up_to stop)) sought) [
      | inl less ↦ omega (arith, less, same)
      | inr reached ↦ absurd (omega (arith, is.least stop reached))
    ]

-- the awards come close to the amount sought
pub AreClose-awards : (lines awards : List RateLine) (sought stop percent : ℕ)
    → 0 < sought
    → Reaches (par_of lines) sought stop percent
    → AreAwards stop percent lines awards
    → AreClose lines sought stop awards
AreClose-awards lines awards sought stop percent some is are =
    let split = AreSplit-awards stop percent lines awards are in
    let below = below-stop lines sought stop percent some is in
    let missing = sought - par_of lines (under stop) in
    let at_stop = par_of lines (at stop) in
    let reached : hundred_percent * (sought - par_of lines (under stop)) ≤ percent * par_of lines (at stop) =
    is.enough in
    let over : percent * par_of lines (at stop)
    < hundred_percent * (sought - par_of lines (under stop)) + par_of lines (at stop) =
    percent-over percent (hundred_percent * missing) at_stop (omega arith) reached is.least_percent in
    record {
      enough = omega (arith, split.total, split.enough, reached, below);
      close = omega (arith, split.total, split.enough, split.close, reached, below, over);
    }
  where
    -- the least number whose product reaches an amount passes it by less than one share
    percent-over : (percent amount share : ℕ)
        → 0 < amount
        → amount ≤ percent * share
        → ((other : ℕ) → amount ≤ other * share → percent ≤ other)
        → percent * share < amount + share
    percent-over zero amount share some enough least = absurd (omega arith)
    percent-over (suc less) amount share some enough least = elim (cases_lt (less * share) amount) [
      | inl short ↦
          (let product : suc less * share ≡ less * share + share = suc-mul less share in omega (arith, product, short))
      | inr reaches ↦ absurd (omega (arith, least less reaches))
    ]

-- where the bids fall short, the awards are what is recognised
pub AreAwards-short : (lines awards : List RateLine) (sought stop percent : ℕ)
    → FallsShort (par_of lines) sought stop percent
    → All IsInHundreds lines
    → AreAwards stop percent lines awards
    → awards ≡ lines
AreAwards-short lines awards sought stop percent short hundreds are =
    all-whole stop percent lines awards short.whole short.greatest hundreds are
  where
    -- an award of whole hundreds at 100 percent, not above the stop, is all of it
    whole-one : (stop percent steps amount award : ℕ)
        → percent ≡ hundred_percent
        → cond (over stop steps) amount 0 ≡ 0
        → amount % 100 ≡ 0
        → IsAward stop percent steps amount award
        → award ≡ amount
    whole-one stop percent steps amount award full none hundreds is = elim (cases_order steps stop) [
      | inl same ↦
          IsProrated-whole amount award hundreds (subst (λ (p : ℕ). IsProrated p amount award) full (is.prorated same))
      | inr (inl less) ↦ is.whole less
      | inr (inr more) ↦ (let above : amount ≡ 0 = rw (lt-ltb stop steps more) at none in is.nothing more ∙ sym above)
    ]

    -- so the awards are the lines
    all-whole : (stop percent : ℕ) (lines awards : List RateLine)
        → percent ≡ hundred_percent
        → par_of lines (over stop) ≡ 0
        → All IsInHundreds lines
        → AreAwards stop percent lines awards
        → awards ≡ lines
    all-whole stop percent [] [] full none hundreds are = refl
    all-whole stop percent (line ∷ lines) (award ∷ awards) full none hundreds are =
        let parts = sum_by-cons (share (over stop)) line lines in
        let in_hundreds = All-head IsInHundreds line lines hundreds in
        let here = whole-one stop percent line.rate.steps line.amount.value award.amount.value full
        (omega arith) in_hundreds are.2 in
        ap₂ (λ l ls. l ∷ ls) (RateLine-same award line are.0 are.1 here)
        (all-whole stop percent lines awards full (omega arith) (All-tail IsInHundreds line lines hundreds) are.3)
    all-whole stop percent [] (award ∷ awards) full none hundreds are = absurd are
    all-whole stop percent (line ∷ lines) [] full none hundreds are = absurd are
