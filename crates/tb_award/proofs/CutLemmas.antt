-- The par of lines at rates, by where the lines stand, and the cut at the stop that the code finds.
use Rattle.std.proofs.Common.{◌≡◌, ℕ, suc, ◌+◌, ◌-◌, ◌*◌, ◌<◌, ◌≤◌, Bool, true, false, cond, List, [], ◌∷◌}
use Rattle.std.proofs.Common.{length, take, drop, get_or, refl, ap, sym, subst, ◌∙◌, arith, inl, inr}
use Rattle.std.specs.Prelude.{All}
use Rattle.std.proofs.lemmas.List.{get_or-take, get_or-drop, length-drop, length-take, take_all}
use Rattle.std.proofs.lemmas.List.Sums.{sum_by-cons, sum_by-le, sum_by-le-sum_by, sum_by-take-drop}
use Rattle.std.proofs.lemmas.List.Sums.{sum_by-take-le, get_or-le-sum_by}
use Rattle.std.proofs.Math.Nat.{mul-le-mul_left}
use Rattle.std.proofs.lemmas.Bool.{le-ltb, le-leb, eq-eqb, cases_lt}
use Rattle.std.proofs.lemmas.Bool.Decides.{nat_tests}
use Rattle.std.specs.declared.cmp.Ordering.{Ordering}
use Rattle.tb_units.proofs.SumLemmas.{cond-le, sum_by-filter, sum_by_agree}
use Rattle.tb_units.specs.declared.lines.RateLine.{RateLine}
use Rattle.tb_award.specs.Cuts.{par_of, total_of, amount_of, steps_of, up_to, under}
use Rattle.tb_award.specs.Cuts.{at, over, AreByRate, IsCut, Reaches}
use Rattle.tb_award.specs.Stops.{IsPercentage, IsStop, on_side, par_on}

-- a line's amount where its rate passes
abbrev pub share : (ℕ → Bool) → RateLine → ℕ
share passes line = cond (passes line.rate.steps) line.amount.value 0

-- it is at most the amount
pub share-le : (passes : ℕ → Bool) (line : RateLine) → share passes line ≤ amount_of line
share-le passes line = cond-le (passes line.rate.steps) line.amount.value

-- all of it where the rate passes
pub share-yes : (passes : ℕ → Bool) (line : RateLine)
    → passes (steps_of line) ≡ true
    → share passes line ≡ amount_of line
share-yes passes line is = ap (λ b. cond b line.amount.value 0) is

-- nothing where it doesn't
pub share-no : (passes : ℕ → Bool) (line : RateLine) → passes (steps_of line) ≡ false → share passes line ≡ 0
share-no passes line fails = ap (λ b. cond b line.amount.value 0) fails

-- the par at some rates is at most that of all lines
pub par_of-le : (passes : ℕ → Bool) (lines : List RateLine) → par_of lines passes ≤ total_of lines
par_of-le passes lines = sum_by-le-sum_by (share passes) amount_of lines (share-le passes)

-- the amounts of the lines on one side of a stop, added up, are the par at the rates there
pub par_on-is : (side : Ordering) (stop : ℕ) (lines : List RateLine)
    → par_on side stop lines ≡ par_of lines (on_side side stop)
par_on-is side stop lines = sum_by-filter amount_of (λ line. on_side side stop (steps_of line)) lines

-- and at most those of all lines
pub par_on-le : (side : Ordering) (stop : ℕ) (lines : List RateLine) → par_on side stop lines ≤ total_of lines
par_on-le side stop lines = omega (arith, par_on-is side stop lines, par_of-le (on_side side stop) lines)

-- lines that don't pass have no part
pub par_of-zero : (passes : ℕ → Bool) (lines : List RateLine)
    → All (λ line. passes (steps_of line) ≡ false) lines
    → par_of lines passes ≡ 0
par_of-zero passes lines none =
    let low : par_of lines passes ≤ length lines * 0 =
    sum_by-le (share passes) 0 lines (λ k d below. rw (none k d below) (omega arith)) in
    omega arith

-- lines that all pass have their whole amount
pub par_of-whole : (passes : ℕ → Bool) (lines : List RateLine)
    → All (λ line. passes (steps_of line) ≡ true) lines
    → total_of lines ≡ par_of lines passes
par_of-whole passes [] all = refl
par_of-whole passes (line ∷ lines) all =
    let here : share passes line ≡ amount_of line = rw (all 0 line (omega arith)) refl in
    let rest = par_of-whole passes lines (λ k d below. all (suc k) d (omega arith)) in
    omega (arith, sum_by-cons amount_of line lines, sum_by-cons (share passes) line lines, here, rest)

-- tests that agree at each rate have one par
pub par_of-agree : (one other : ℕ → Bool) (lines : List RateLine)
    → ((steps : ℕ) → one steps ≡ other steps)
    → par_of lines one ≡ par_of lines other
par_of-agree one other lines same =
    sum_by_agree (share one) (share other) lines (λ line. ap (λ b. cond b line.amount.value 0) (same line.rate.steps))

-- where the lines from a place on don't pass, the part is within the amounts before it
par_of-before : (passes : ℕ → Bool) (lines : List RateLine) (place : ℕ)
    → ((k : ℕ) (d : RateLine) → place ≤ k → k < length lines → passes (steps_of (get_or lines k d)) ≡ false)
    → par_of lines passes ≤ total_of (take place lines)
par_of-before passes lines place none =
    let behind : par_of (drop place lines) passes ≡ 0 = par_of-zero passes (drop place lines) (λ k d below.
    rw (get_or-drop place lines k d) (none (place + k) d (omega arith)
    (omega (arith, length-drop place lines, below)))) in
    omega (arith, par_of-le passes (take place lines), sum_by-take-drop (share passes) lines place, behind)

-- where the lines before a place all pass, the part has the amounts before it
par_of-covers : (passes : ℕ → Bool) (lines : List RateLine) (place : ℕ)
    → ((k : ℕ) (d : RateLine) → k < place → k < length lines → passes (steps_of (get_or lines k d)) ≡ true)
    → total_of (take place lines) ≤ par_of lines passes
par_of-covers passes lines place all =
    let whole : total_of (take place lines) ≡ par_of (take place lines) passes =
    par_of-whole passes (take place lines) (λ k d below.
    let inside : k < place = omega (arith, length-take place lines) in
    let within : k < length lines = omega (arith, length-take place lines) in
    rw (get_or-take place lines k d inside) (all k d inside within)) in
    omega (arith, whole, sum_by-take-le (share passes) lines place)

-- rates up to the stop are those under it and those at it
share-split : (stop steps amount : ℕ)
    → cond (up_to stop steps) amount 0 ≡ cond (under stop steps) amount 0 + cond (at stop steps) amount 0
share-split stop steps amount = grind (arith, nat_tests)

-- and so is their par
pub par_of-split : (stop : ℕ) (lines : List RateLine)
    → par_of lines (up_to stop) ≡ par_of lines (under stop) + par_of lines (at stop)
par_of-split stop [] = refl
par_of-split stop (line ∷ lines) =
    omega (
      arith,
      sum_by-cons (share (up_to stop)) line lines,
      sum_by-cons (share (under stop)) line lines,
      sum_by-cons (share (at stop)) line lines,
      share-split stop line.rate.steps line.amount.value,
      par_of-split stop lines,
    )

-- the least number whose product reaches an amount
pub least_quotient : (least other amount share : ℕ)
    → least * share < amount + share
    → amount ≤ other * share
    → least ≤ other
least_quotient least other amount share below reaches = elim (cases_lt other least) [
  | inl less ↦ absurd (omega (arith, mul-le-mul_left share less, below, reaches))
  | inr le ↦ le
]

-- what the tests of rates answer
pub up_to-yes : (stop steps : ℕ) → steps ≤ stop → up_to stop steps ≡ true
up_to-yes stop steps low = le-leb steps stop low

-- a rate over the stop is not up to it
pub up_to-no : (stop steps : ℕ) → stop < steps → up_to stop steps ≡ false
up_to-no stop steps above = grind (arith, nat_tests)

-- a rate from the stop on is not under it
pub under-no : (stop steps : ℕ) → stop ≤ steps → under stop steps ≡ false
under-no stop steps low = le-ltb steps stop low

-- under the next step is up to this one
pub under-next : (stop steps : ℕ) → under (suc stop) steps ≡ up_to stop steps
under-next stop steps = grind (arith, nat_tests)

-- a rate up to the stop is not over it
pub over-no : (stop steps : ℕ) → steps ≤ stop → over stop steps ≡ false
over-no stop steps low = le-ltb stop steps low

-- where the stop is the rate of the line with which lines in order reach an amount, or of the last one
module _ {lines : List RateLine} {sought stop : ℕ} (order : AreByRate lines) (found : IsStop lines sought stop) where
  -- at rates under the stop they don't reach it
  less-before : (passes : ℕ → Bool)
      → ((steps : ℕ) → stop ≤ steps → passes steps ≡ false)
      → par_of lines passes < sought
  less-before passes none =
      let low : par_of lines passes ≤ total_of (take found.place lines) =
      par_of-before passes lines found.place (λ k d from below.
      none (steps_of (get_or lines k d)) (omega (arith, order found.place k d from below, found.rate d))) in
      omega (arith, found.before, low)

  -- so what is recognised under it doesn't
  pub under-less : par_of lines (under stop) < sought
  under-less = less-before (under stop) (under-no stop)

  -- no rate at which they do is less than the stop
  pub up_to-least : (steps : ℕ) → sought ≤ par_of lines (up_to steps) → stop ≤ steps
  up_to-least steps reaches = elim (cases_lt steps stop) [
    | inl less ↦ absurd (let low = less-before (up_to steps) (λ s high. up_to-no steps s (omega arith)) in omega arith)
    | inr le ↦ le
  ]

  -- what stands up to the line's place stands up to the stop
  pub up_to-covers : total_of (take (found.place + 1) lines) ≤ par_of lines (up_to stop)
  up_to-covers =
      par_of-covers (up_to stop) lines (found.place + 1)
      (λ k d before below. up_to-yes stop (steps_of (get_or lines k d))
      (omega (arith, order k found.place d (omega arith) found.within, found.rate d)))

  -- where all lines reach it, so do those up to the stop
  pub up_to-reaches : sought ≤ total_of lines → sought ≤ par_of lines (up_to stop)
  up_to-reaches reached = elim found.reached [
    | inl here ↦ omega (arith, here, up_to-covers)
    | inr last ↦
        (let all : take (found.place + 1) lines ≡ lines = take_all (found.place + 1) lines (omega arith) in
        let covers : total_of lines ≤ par_of lines (up_to stop) = rw all at up_to-covers in
        omega (arith, reached, covers))
  ]

  -- else the stop is the greatest rate
  pub last-rate : total_of lines < sought
      → (k : ℕ) (d : RateLine)
      → k < length lines
      → steps_of (get_or lines k d) ≤ stop
  last-rate less k d below = elim found.reached [
    | inl here ↦ absurd (omega (arith, here, less, sum_by-take-le amount_of lines (found.place + 1)))
    | inr last ↦ omega (arith, order k found.place d (omega arith) found.within, found.rate d)
  ]

  -- a line with an amount stands at the stop
  pub at-some : All (λ line. 1 ≤ amount_of line) lines → (d : RateLine) → 0 < par_of lines (at stop)
  at-some amounts d =
      let amount : 1 ≤ amount_of (get_or lines found.place d) = amounts found.place d found.within in
      let whole : share (at stop) (get_or lines found.place d) ≡ amount_of (get_or lines found.place d) =
      rw (eq-eqb (steps_of (get_or lines found.place d)) stop (found.rate d)) refl in
      omega (arith, get_or-le-sum_by (share (at stop)) lines found.place d found.within, whole, amount)

  -- with the percentage of what is recognised there it is the cut
  pub IsCut-stop : (percent : ℕ) (d : RateLine)
      → All (λ line. 1 ≤ amount_of line) lines
      → IsPercentage (sought - par_of lines (under stop)) (par_of lines (at stop)) percent
      → IsCut (par_of lines) sought stop percent
  IsCut-stop percent d amounts is = elim (cases_lt (total_of lines) sought) [
    | inl less ↦
        inr (record {
          short = λ steps. omega (arith, par_of-le (up_to steps) lines);
          bid = at-some amounts d;
          greatest = par_of-zero (over stop) lines
              (λ k e below. over-no stop (steps_of (get_or lines k e)) (last-rate less k e below));
          whole = is.short (omega (arith, par_of-le (up_to stop) lines, par_of-split stop lines, less, under-less));
        })
    | inr reaches ↦
        (let within : sought - par_of lines (under stop) ≤ par_of lines (at stop) =
        omega (arith, up_to-reaches reaches, par_of-split stop lines) in
        inl (record {
          reached = up_to-reaches reaches;
          least = up_to-least;
          enough = is.enough within;
          least_percent = is.least within;
        }))
  ]

-- where nothing is recognised over the stop, nothing is at a greater rate
no-greater : (lines : List RateLine) (stop other : ℕ)
    → par_of lines (over stop) ≡ 0
    → 0 < par_of lines (at other)
    → other ≤ stop
no-greater lines stop other none some = elim (cases_lt stop other) [
  | inl above ↦
      (let part : par_of lines (at other) ≤ par_of lines (over stop) =
      sum_by-le-sum_by (share (at other)) (share (over stop)) lines
      (λ line. at-over other stop line.rate.steps line.amount.value above) in
      absurd (omega arith))
  | inr within ↦ within
]
  where
    -- what stands at a rate over the stop is part of what stands over the stop
    at-over : (other stop steps amount : ℕ)
        → stop < other
        → cond (at other steps) amount 0 ≤ cond (over stop steps) amount 0
    at-over other stop steps amount above = grind (arith, nat_tests)

-- there is one stop, and one percentage at it
pub IsCut-one : (lines : List RateLine) (sought stop other percent other_percent : ℕ)
    → IsCut (par_of lines) sought stop percent
    → IsCut (par_of lines) sought other other_percent
    → (stop ≡ other) × (percent ≡ other_percent)
IsCut-one lines sought stop other percent other_percent (inl is) (inl is') =
    let same : stop ≡ other = omega (arith, is.least other is'.reached, is'.least stop is.reached) in
    (same, one-percent stop other same is is')
  where
    -- at one stop there is one percentage
    one-percent : (stop other : ℕ)
        → stop ≡ other
        → Reaches (par_of lines) sought stop percent
        → Reaches (par_of lines) sought other other_percent
        → percent ≡ other_percent
    one-percent stop other same is is' =
        let here : Reaches (par_of lines) sought stop other_percent =
        subst (λ (s : ℕ). Reaches (par_of lines) sought s other_percent) (sym same) is' in
        omega (arith, is.least_percent other_percent here.enough, here.least_percent percent is.enough)
IsCut-one lines sought stop other percent other_percent (inl is) (inr short) =
    absurd (omega (arith, is.reached, short.short stop))
IsCut-one lines sought stop other percent other_percent (inr short) (inl is) =
    absurd (omega (arith, is.reached, short.short other))
IsCut-one lines sought stop other percent other_percent (inr short) (inr short') = (
  omega (
    arith,
    no-greater lines stop other short.greatest short'.bid,
    no-greater lines other stop short'.greatest short.bid,
  ),
  short.whole ∙ sym short'.whole,
)
