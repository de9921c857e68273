-- The awards added up in order, and the least rate at or below which a part of them lies.
use Rattle.std.proofs.Common.{◌≡◌, ℕ, zero, suc, ◌+◌, ◌-◌, ◌*◌, ◌^◌, ◌<◌, ◌≤◌, List, [], ◌∷◌, length}
use Rattle.std.proofs.Common.{take, get_or, All, ap, sym, subst, ◌∙◌, inl, inr, arith}
use Rattle.std.proofs.lemmas.List.{length-take}
use Rattle.std.proofs.lemmas.List.Elements.{All-head, All-tail}
use Rattle.std.proofs.lemmas.List.Sums.{sum_by-cons, sum_by_more, sum_by-take-le}
use Rattle.std.proofs.Math.Nat.{mul_comm, mul-le-mul_left, suc-mul}
use Rattle.tb_units.specs.declared.rate.Rate.{Rate}
use Rattle.tb_units.specs.declared.lines.RateLine.{RateLine}
use Rattle.tb_award.specs.declared.outcome.Cut.{Cut}
use Rattle.tb_award.specs.Awards.{AreAwardsOf, IsAward, IsRateOfPart}
use Rattle.tb_award.specs.Cuts.{AreByRate, amount_of, most_recognised, par_of, steps_of, total_of, up_to}
use Rattle.tb_award.specs.Stops.{AwardsSumTo, IsStop}
use Rattle.tb_award.proofs.AwardLemmas.{AreAwards-at, IsAward-one, awards-le, length-awards}
use Rattle.tb_award.proofs.CutLemmas.{least_quotient, up_to-least, up_to-reaches}

-- there are no more lines than dollars, where each line has one at least
pub length-le-total : (lines : List RateLine) → All (λ line. 1 ≤ amount_of line) lines → length lines ≤ total_of lines
length-le-total [] amounts = omega arith
length-le-total (line ∷ lines) amounts =
    let Some : RateLine → Type 0 = λ l. 1 ≤ amount_of l in
    let rest = length-le-total lines (All-tail Some line lines amounts) in
    omega (arith, sum_by-cons amount_of line lines, All-head Some line lines amounts, rest)

-- the awards so far are far from the end of their type
pub sum-fits : (cut : Cut) (lines : List RateLine) (count sum : ℕ)
    → All (λ line. 1 ≤ amount_of line) lines
    → total_of lines ≤ most_recognised
    → AwardsSumTo cut (take count lines) sum
    → sum ≤ 101 * 10 ^ 22
sum-fits cut lines count sum amounts fits so_far =
    omega (
      arith,
      so_far.2,
      awards-le cut.stop.steps cut.percent.hundredths (take count lines) so_far.0 cut.percent.in_range so_far.1,
      sum_by-take-le amount_of lines count,
      length-take-short count lines,
      length-le-total lines amounts,
    )
  where
    -- no more lines are taken than there are
    length-take-short : (count : ℕ) (lines : List RateLine) → length (take count lines) ≤ length lines
    length-take-short count lines = omega (arith, length-take count lines)

-- and so are all awards
pub all-fits : (cut : Cut) (lines : List RateLine) (sum : ℕ)
    → All (λ line. 1 ≤ amount_of line) lines
    → total_of lines ≤ most_recognised
    → AwardsSumTo cut lines sum
    → sum ≤ 101 * 10 ^ 22
all-fits cut lines sum amounts fits are =
    omega (
      arith,
      are.2,
      awards-le cut.stop.steps cut.percent.hundredths lines are.0 cut.percent.in_range are.1,
      length-le-total lines amounts,
    )

-- an award is at the rate of its line
pub award-rate : (cut : Cut) (lines awards : List RateLine) (k : ℕ) (d e : RateLine)
    → AreAwardsOf cut lines awards
    → k < length lines
    → steps_of (get_or awards k e) ≡ steps_of (get_or lines k d)
award-rate cut lines awards k d e are below =
    ap (λ (rate : Rate). rate.steps) (AreAwards-at cut.stop.steps cut.percent.hundredths lines awards are k d e below).0

-- so awards are in order of rate where the lines are
pub AreByRate-awards : (cut : Cut) (lines awards : List RateLine)
    → AreAwardsOf cut lines awards
    → AreByRate lines
    → AreByRate awards
AreByRate-awards cut lines awards are order = λ i j d before below.
    let size = length-awards cut.stop.steps cut.percent.hundredths lines awards are in
    omega (
      arith,
      award-rate cut lines awards i d d are (omega (arith, size)),
      award-rate cut lines awards j d d are (omega (arith, size)),
      order i j d before (omega (arith, size)),
    )

-- the awards up to a place and the next one
pub awards-next : (cut : Cut) (lines awards : List RateLine) (k : ℕ) (line : RateLine) (award : ℕ)
    → AreAwardsOf cut lines awards
    → k < length lines
    → line ≡ get_or lines k line
    → IsAward cut.stop.steps cut.percent.hundredths line.rate.steps line.amount.value award
    → total_of (take (k + 1) awards) ≡ total_of (take k awards) + award
awards-next cut lines awards k line award are below is gets =
    let stop = cut.stop.steps in
    let percent = cut.percent.hundredths in
    let size = length-awards stop percent lines awards are in
    let there = (AreAwards-at stop percent lines awards are k line line below).1 in
    let here : IsAward stop percent (get_or lines k line).rate.steps (get_or lines k line).amount.value award =
    subst (λ (l : RateLine). IsAward stop percent l.rate.steps l.amount.value award) is gets in
    let same =
    IsAward-one stop percent (get_or lines k line).rate.steps (get_or lines k line).amount.value
    (get_or awards k line).amount.value award
    there here in
    omega (arith, sum_by_more amount_of awards k line (omega (arith, size)), same)

-- the line with which the awards reach a part of them is the stop for that part
pub IsStop-here : (cut : Cut) (lines awards : List RateLine) (part k : ℕ) (line : RateLine)
    → AreAwardsOf cut lines awards
    → k < length lines
    → line ≡ get_or lines k line
    → total_of (take k awards) < part
    → part ≤ total_of (take (k + 1) awards)
    → IsStop awards part line.rate.steps
IsStop-here cut lines awards part k line are below is before reached = record {
  place = k;
  within = omega (arith, length-awards cut.stop.steps cut.percent.hundredths lines awards are);
  rate = λ d. award-rate cut lines awards k line d are below ∙ ap steps_of (sym is);
  before = before;
  reached = inl reached;
}

-- the last line is, where they don't
pub IsStop-last : (cut : Cut) (lines awards : List RateLine) (part : ℕ) (line : RateLine)
    → AreAwardsOf cut lines awards
    → 0 < length lines
    → line ≡ get_or lines (length lines - 1) line
    → total_of awards < part
    → IsStop awards part line.rate.steps
IsStop-last cut lines awards part line are some is less =
    let size = length-awards cut.stop.steps cut.percent.hundredths lines awards are in
    record {
      place = length lines - 1;
      within = omega (arith, size);
      rate = λ d. award-rate cut lines awards (length lines - 1) line d are (omega arith) ∙ ap steps_of (sym is);
      before = omega (arith, sum_by-take-le amount_of awards (length lines - 1), less);
      reached = inr (omega (arith, size));
    }

-- a part that is the least whose product reaches all awards
pub record IsPart (parts all part : ℕ) : Type 0 where
  pub some : 0 < part
  pub enough : all ≤ parts * part
  pub least : (other : ℕ) → all ≤ parts * other → part ≤ other

-- such a part is the quotient, rounded up
pub IsPart-quotient : (parts all part : ℕ)
    → 0 < all
    → all ≤ part * parts
    → part * parts < all + parts
    → IsPart parts all part
IsPart-quotient parts all part some enough short = record {
  some = above part enough;
  enough = omega (arith, enough, mul_comm part parts);
  least = λ other reaches. least_quotient part other all parts short (omega (arith, reaches, mul_comm parts other));
}
  where
    -- no part of nothing reaches something
    above : (part : ℕ) → all ≤ part * parts → 0 < part
    above zero enough = absurd (omega arith)
    above (suc part) enough = omega arith

-- the stop for that part is the least rate at or below which it lies
pub IsRateOfPart-stop : (parts : ℕ) (awards : List RateLine) (part steps : ℕ)
    → 0 < parts
    → AreByRate awards
    → IsPart parts (total_of awards) part
    → IsStop awards part steps
    → IsRateOfPart parts awards steps
IsRateOfPart-stop parts awards part steps some order is stop =
    let within : part ≤ total_of awards = is.least (total_of awards) (product-le parts (total_of awards) some) in
    let reaches = up_to-reaches order stop within in
    let product = mul-le-mul_left parts reaches in
    record {
      reached = omega (arith, is.enough, product);
      least = λ other enough. up_to-least order stop other (is.least (par_of awards (up_to other)) enough);
    }
  where
    -- a multiple is no less
    product-le : (parts all : ℕ) → 0 < parts → all ≤ parts * all
    product-le zero all some = absurd (omega arith)
    product-le (suc parts) all some =
        (let product : suc parts * all ≡ parts * all + all = suc-mul parts all in omega (arith, product))

-- there is one rate of a part
pub IsRateOfPart-one : (parts : ℕ) (awards : List RateLine) (one other : ℕ)
    → IsRateOfPart parts awards one
    → IsRateOfPart parts awards other
    → one ≡ other
IsRateOfPart-one parts awards one other is is' = omega (arith, is.least other is'.reached, is'.least one is.reached)
