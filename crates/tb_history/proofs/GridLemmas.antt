-- What is recognised, added up by bidders and rates.
use Rattle.std.proofs.Common.{◌≡◌, ◌≢◌, ℕ, zero, suc, ◌+◌, ◌-◌, ◌<◌, ◌≤◌, ◌==◌, ◌&&◌, ◌⊎◌, Bool, true, false, cond}
use Rattle.std.proofs.Common.{nat_lt, inl, inr, List, [], ◌∷◌, get_or, All, refl, sym, ap, ◌∙◌, subst, arith}
use Rattle.std.specs.List.{AllPairs}
use Rattle.std.proofs.lemmas.Bool.{cases_Bool, both_ways, eqb-true, eq-eqb, false_from_ne_true, ltb-true, lt-ltb}
use Rattle.std.proofs.lemmas.List.Elements.{All-head, All-tail}
use Rattle.std.proofs.lemmas.List.Sums.{sum_by-cons}
use Rattle.tb_units.specs.declared.lines.RateLine.{RateLine}
use Rattle.tb_units.proofs.ListLemmas.{AllPairs-head, AllPairs-tail}
use Rattle.tb_award.specs.Cuts.{par_of, under}
use Rattle.tb_award.specs.Recognition.{bid_in, sum_under, let_through, recognised_at, IsEarlier}
use Rattle.tb_award.specs.Recognition.{IsRecognised, HasLineOf, AreRecognised}
use Rattle.tb_award.proofs.BidLemmas.{IsBidOf, bid_in-none, let_through-more}

-- a sum of sums below a bound
sum_under_plus : (f g : ℕ → ℕ) (bound : ℕ) → sum_under (λ n. f n + g n) bound ≡ sum_under f bound + sum_under g bound
sum_under_plus f g zero = refl
sum_under_plus f g (suc bound) = omega (arith, sum_under_plus f g bound)

-- sums of numbers that agree below the bound
pub sum_under_agree : (f g : ℕ → ℕ) (bound : ℕ)
    → ((n : ℕ) → n < bound → f n ≡ g n)
    → sum_under f bound ≡ sum_under g bound
sum_under_agree f g zero same = refl
sum_under_agree f g (suc bound) same =
    omega (arith, sum_under_agree f g bound (λ n below. same n (omega (arith, below))), same bound (omega arith))

-- a sum of nothing
pub sum_under_none : (f : ℕ → ℕ) (bound : ℕ) → ((n : ℕ) → n < bound → f n ≡ 0) → sum_under f bound ≡ 0
sum_under_none f zero none = refl
sum_under_none f (suc bound) none =
    omega (arith, sum_under_none f bound (λ n below. none n (omega (arith, below))), none bound (omega arith))

-- a sum in which one number counts
pub sum_under_once : (f : ℕ → ℕ) (place bound : ℕ)
    → place < bound
    → ((n : ℕ) → n < bound → n ≢ place → f n ≡ 0)
    → sum_under f bound ≡ f place
sum_under_once f place zero inside others = absurd (omega (arith, inside))
sum_under_once f place (suc bound) inside others =
    elim (cases_Bool (place == bound)) [
      | inl is ↦
          let same : place ≡ bound = eqb-true place bound is in
          let none : sum_under f bound ≡ 0 =
          sum_under_none f bound (λ n below. others n (omega (arith, below))
          (λ equal. omega (arith, below, equal, same))) in
          let here : f bound ≡ f place = ap f (sym same) in
          omega (arith, none, here)
      | inr isnt ↦
          let apart : place ≢ bound = λ equal. both_ways (place == bound) isnt (eq-eqb place bound equal) in
          let below : place < bound = omega (arith, inside, apart) in
          let rest = sum_under_once f place bound below (λ n less. others n (omega (arith, less))) in
          let last : f bound ≡ 0 = others bound (omega arith) (λ equal. apart (sym equal)) in
          omega (arith, rest, last)
    ]

-- a number for each bidder and rate, added up
abbrev pub grid : (ℕ → ℕ → ℕ) → ℕ → ℕ → ℕ
grid cell bidders bound = sum_under (λ bidder. sum_under (cell bidder) bound) bidders

-- a sum of two grids
grid_plus : (f g : ℕ → ℕ → ℕ) (bidders bound : ℕ)
    → grid (λ bidder steps. f bidder steps + g bidder steps) bidders bound ≡ grid f bidders bound + grid g bidders bound
grid_plus f g bidders bound =
    sum_under_agree _ _ bidders (λ bidder below. sum_under_plus (f bidder) (g bidder) bound)
    ∙ sum_under_plus (λ bidder. sum_under (f bidder) bound) (λ bidder. sum_under (g bidder) bound) bidders

-- grids that agree in each place have one sum
grid_agree : (f g : ℕ → ℕ → ℕ) (bidders bound : ℕ)
    → ((bidder steps : ℕ) → bidder < bidders → f bidder steps ≡ g bidder steps)
    → grid f bidders bound ≡ grid g bidders bound
grid_agree f g bidders bound same =
    sum_under_agree _ _ bidders (λ bidder below. sum_under_agree (f bidder) (g bidder) bound
    (λ steps less. same bidder steps below))

-- what a line is of a bidder at a rate
abbrev pub cell_of : RateLine → ℕ → ℕ → ℕ
cell_of line bidder steps = cond ((line.bidder == bidder) && (line.rate.steps == steps)) line.amount.value 0

-- the part at the rates that pass
abbrev pub passing : (ℕ → Bool) → (ℕ → ℕ → ℕ) → ℕ → ℕ → ℕ
passing passes cell bidder steps = cond (passes steps) (cell bidder steps) 0

-- a part of nothing is nothing
cond_zero : (b : Bool) (n : ℕ) → n ≡ 0 → cond b n 0 ≡ 0
cond_zero true n none = none
cond_zero false n none = refl

-- a part of a sum is the sum of the parts
cond_plus : (b : Bool) (n m : ℕ) → cond b (n + m) 0 ≡ cond b n 0 + cond b m 0
cond_plus true n m = refl
cond_plus false n m = refl

-- a line is nothing of another bidder
pub other_bidder : (line : RateLine) (bidder steps : ℕ) → bidder ≢ line.bidder → cell_of line bidder steps ≡ 0
other_bidder line bidder steps apart =
    let not_theirs : (line.bidder == bidder) ≡ false =
    false_from_ne_true _ (λ is. apart (sym (eqb-true line.bidder bidder is))) in
    rw not_theirs refl

-- a line is nothing at another rate
pub other_rate : (line : RateLine) (bidder steps : ℕ) → steps ≢ line.rate.steps → cell_of line bidder steps ≡ 0
other_rate line bidder steps apart =
    let not_there : (line.rate.steps == steps) ≡ false =
    false_from_ne_true _ (λ is. apart (sym (eqb-true line.rate.steps steps is))) in
    both_false (line.bidder == bidder) line.amount.value not_there
  where
    -- a line at another rate counts nothing at this one
    both_false : (a : Bool) (n : ℕ)
        → (line.rate.steps == steps) ≡ false
        → cond (a && (line.rate.steps == steps)) n 0 ≡ 0
    both_false true n not_there = rw not_there refl
    both_false false n not_there = refl

-- in its own place it is its amount
pub own_cell : (line : RateLine) → cell_of line line.bidder line.rate.steps ≡ line.amount.value
own_cell line = rw (eq-eqb line.bidder line.bidder refl, eq-eqb line.rate.steps line.rate.steps refl) refl

-- a line stands in one place of the grid
grid_line : (passes : ℕ → Bool) (line : RateLine) (bidders bound : ℕ)
    → line.bidder < bidders
    → line.rate.steps < bound
    → grid (passing passes (cell_of line)) bidders bound ≡ cond (passes line.rate.steps) line.amount.value 0
grid_line passes line bidders bound known within =
    let row : ℕ → ℕ = λ bidder. sum_under (passing passes (cell_of line) bidder) bound in
    let others : (bidder : ℕ) → bidder < bidders → bidder ≢ line.bidder → row bidder ≡ 0 =
    λ bidder below apart. sum_under_none (passing passes (cell_of line) bidder) bound
    (λ steps less. cond_zero (passes steps) (cell_of line bidder steps)
    (other_bidder line bidder steps apart)) in
    let own : row line.bidder ≡ passing passes (cell_of line) line.bidder line.rate.steps =
    sum_under_once (passing passes (cell_of line) line.bidder) line.rate.steps bound within
    (λ steps less apart. cond_zero (passes steps) (cell_of line line.bidder steps)
    (other_rate line line.bidder steps apart)) in
    sum_under_once row line.bidder bidders known others
    ∙ (own ∙ ap (λ n. cond (passes line.rate.steps) n 0) (own_cell line))

-- no lines, no par
grid_none : (passes : ℕ → Bool) (bidders bound : ℕ) → grid (passing passes (bid_in [])) bidders bound ≡ 0
grid_none passes bidders bound =
    sum_under_none _ bidders (λ bidder below. sum_under_none _ bound (λ steps less. cond_zero (passes steps) 0 refl))

-- the line is of a bidder and at a rate of the grid
abbrev pub IsInGrid : ℕ → ℕ → RateLine → Type 0
IsInGrid bidders bound line = (line.bidder < bidders) × (line.rate.steps < bound)

-- the par of lines at the rates that pass is the sum over the grid
pub par_of-grid : (passes : ℕ → Bool) (lines : List RateLine) (bidders bound : ℕ)
    → All (IsInGrid bidders bound) lines
    → par_of lines passes ≡ grid (passing passes (bid_in lines)) bidders bound
par_of-grid passes [] bidders bound inside = sym (grid_none passes bidders bound)
par_of-grid passes (line ∷ lines) bidders bound inside =
    let here = All-head (IsInGrid bidders bound) line lines inside in
    let rest = par_of-grid passes lines bidders bound (All-tail (IsInGrid bidders bound) line lines inside) in
    let one = grid_line passes line bidders bound here.0 here.1 in
    let split : grid (passing passes (bid_in (line ∷ lines))) bidders bound
    ≡ grid (passing passes (cell_of line)) bidders bound + grid (passing passes (bid_in lines)) bidders bound =
    grid_agree (passing passes (bid_in (line ∷ lines)))
    (λ b s. passing passes (cell_of line) b s + passing passes (bid_in lines) b s) bidders bound
    (λ b s below. ap (λ n. cond (passes s) n 0) (sum_by-cons (λ (l : RateLine). cell_of l b s) line lines)
    ∙ cond_plus (passes s) (cell_of line b s) (bid_in lines b s))
    ∙ grid_plus (passing passes (cell_of line)) (passing passes (bid_in lines)) bidders bound in
    sum_by-cons (λ (l : RateLine). cond (passes l.rate.steps) l.amount.value 0) line lines
    ∙ omega (arith, split, one, rest)

-- whether a line is of a bidder at a rate
pub cases_bid : (bidder steps : ℕ) (line : RateLine) → IsBidOf bidder steps line ⊎ ¬ (IsBidOf bidder steps line)
cases_bid bidder steps line =
    elim (cases_Bool (line.bidder == bidder)) [
      | inl own ↦ elim (cases_Bool (line.rate.steps == steps)) [
        | inl at ↦ inl (eqb-true line.bidder bidder own, eqb-true line.rate.steps steps at)
        | inr off ↦ inr (λ is. both_ways (line.rate.steps == steps) off (eq-eqb line.rate.steps steps is.1))
      ]
      | inr other ↦ inr (λ is. both_ways (line.bidder == bidder) other (eq-eqb line.bidder bidder is.0))
    ]

-- lines in order behind a bid aren't of that bid
pub later-other : (line : RateLine) (lines : List RateLine) (bidder steps : ℕ)
    → All (IsEarlier line) lines
    → IsBidOf bidder steps line
    → All (λ l. ¬ (IsBidOf bidder steps l)) lines
later-other line lines bidder steps earlier is = λ k d below same.
    elim (earlier k d below) [
      | inl lower ↦ omega (arith, lower, is.1, same.1)
      | inr equal ↦ omega (arith, equal.1, is.0, same.0)
    ]

-- a bidder's line at a rate stands once: its par there is that line's
pub bid_in-line : (lines : List RateLine) (bidder steps value : ℕ)
    → AllPairs IsEarlier lines
    → All (λ line. IsBidOf bidder steps line → line.amount.value ≡ value) lines
    → HasLineOf bidder steps lines
    → bid_in lines bidder steps ≡ value
bid_in-line [] bidder steps value order amounts has = absurd (omega (arith, has.1))
bid_in-line (line ∷ lines) bidder steps value order amounts has =
    let P : RateLine → Type 0 = λ l. IsBidOf bidder steps l → l.amount.value ≡ value in
    let split = sum_by-cons (λ (l : RateLine). cell_of l bidder steps) line lines in
    elim (cases_bid bidder steps line) [
      | inl is ↦
          let none = bid_in-none lines bidder steps
          (later-other line lines bidder steps (AllPairs-head IsEarlier line lines order) is) in
          let amount : line.amount.value ≡ value = All-head P line lines amounts is in
          let here : cell_of line bidder steps ≡ line.amount.value =
          rw (eq-eqb line.bidder bidder is.0, eq-eqb line.rate.steps steps is.1) refl in
          omega (arith, split, none, amount, here)
      | inr isnt ↦
          let here : cell_of line bidder steps ≡ 0 = none_of line bidder steps isnt in
          let rest = bid_in-line lines bidder steps value (AllPairs-tail IsEarlier line lines order)
          (All-tail P line lines amounts) (later line lines bidder steps isnt has) in
          omega (arith, split, here, rest)
    ]
  where
    -- a line of another bid has nothing there
    none_of : (line : RateLine) (bidder steps : ℕ) → ¬ (IsBidOf bidder steps line) → cell_of line bidder steps ≡ 0
    none_of line bidder steps isnt =
        elim (cases_Bool (line.bidder == bidder)) [
          | inl own ↦ other_rate line bidder steps (λ same. isnt (eqb-true line.bidder bidder own, sym same))
          | inr other ↦ rw other refl
        ]

    -- a line that is not the first is one of the rest
    later : (line : RateLine) (lines : List RateLine) (bidder steps : ℕ)
        → ¬ (IsBidOf bidder steps line)
        → HasLineOf bidder steps (line ∷ lines)
        → HasLineOf bidder steps lines
    later line lines bidder steps isnt (zero, within, is) = absurd (isnt (is line))
    later line lines bidder steps isnt (suc k, within, is) = (k, omega (arith, within), is)

-- where nothing is recognised no line stands
recognised-none : (bids : ℕ → ℕ → ℕ) (cap : ℕ) (limits : ℕ → ℕ) (bidders bidder steps : ℕ) (lines : List RateLine)
    → All (IsRecognised bids cap limits bidders) lines
    → recognised_at (bids bidder) cap (limits bidder) steps ≡ 0
    → All (λ l. ¬ (IsBidOf bidder steps l)) lines
recognised-none bids cap limits bidders bidder steps lines each none = λ k d below is.
    let line = get_or lines k d in
    let found = each k d below in
    let same : recognised_at (bids line.bidder) cap (limits line.bidder) line.rate.steps
    ≡ recognised_at (bids bidder) cap (limits bidder) steps =
    ap (λ b. recognised_at (bids b) cap (limits b) line.rate.steps) is.0
    ∙ ap (λ s. recognised_at (bids bidder) cap (limits bidder) s) is.1 in
    omega (arith, found.some, found.amount, same, none)

-- what the recognised lines have of a bidder at a rate is what is recognised of it there
pub bid_in-recognised : (bids : ℕ → ℕ → ℕ) (cap : ℕ) (limits : ℕ → ℕ) (bidders bidder steps : ℕ) (lines : List RateLine)
    → AreRecognised bids cap limits bidders lines
    → bidder < bidders
    → bid_in lines bidder steps ≡ recognised_at (bids bidder) cap (limits bidder) steps
bid_in-recognised bids cap limits bidders bidder steps lines are known =
    let value = recognised_at (bids bidder) cap (limits bidder) steps in
    elim (cases_Bool (value == 0)) [
      | inl none ↦
          let zero_here : value ≡ 0 = eqb-true value 0 none in
          bid_in-none lines bidder steps (recognised-none bids cap limits bidders bidder steps lines are.each zero_here)
          ∙ sym zero_here
      | inr some ↦
          let positive : 0 < value = above value some in
          let amounts : All (λ line. IsBidOf bidder steps line → line.amount.value ≡ value) lines = λ k d below is.
          (are.each k d below).amount
          ∙ (ap (λ b. recognised_at (bids b) cap (limits b) (get_or lines k d).rate.steps) is.0
          ∙ ap (λ s. recognised_at (bids bidder) cap (limits bidder) s) is.1) in
          bid_in-line lines bidder steps value are.order amounts (are.all bidder steps known positive)
    ]
  where
    -- what is not zero is something
    above : (number : ℕ) → (number == 0) ≡ false → 0 < number
    above zero isnt = absurd (both_ways (0 == 0) isnt (eq-eqb 0 0 refl))
    above (suc number) isnt = omega arith

-- what is recognised at the rates under a bound, added up, is what is let through
sum_under-recognised : (bids : ℕ → ℕ) (cap limit bound : ℕ)
    → sum_under (recognised_at bids cap limit) bound ≡ let_through bids cap limit bound
sum_under-recognised bids cap limit zero = omega arith
sum_under-recognised bids cap limit (suc bound) =
    omega (arith, sum_under-recognised bids cap limit bound, let_through-more bids cap limit bound)

-- a sum of the part under a rate
sum_under-part : (f : ℕ → ℕ) (low more : ℕ)
    → sum_under (λ n. cond (nat_lt n low) (f n) 0) (more + low) ≡ sum_under f low
sum_under-part f low zero =
    ap (sum_under (λ n. cond (nat_lt n low) (f n) 0)) (let same : 0 + low ≡ low = omega arith in same)
    ∙ sum_under_agree (λ n. cond (nat_lt n low) (f n) 0) f low (λ n below. rw (lt-ltb n low below) refl)
sum_under-part f low (suc more) =
    let step : suc more + low ≡ suc (more + low) = omega arith in
    let past : nat_lt (more + low) low ≡ false =
    false_from_ne_true _ (λ is. absurd (omega (arith, ltb-true (more + low) low is))) in
    let none : cond (nat_lt (more + low) low) (f (more + low)) 0 ≡ 0 = rw past refl in
    rw step (omega (arith, sum_under-part f low more, none))

-- the same where the rate is within the bound
pub sum_under-below : (f : ℕ → ℕ) (low bound : ℕ)
    → low ≤ bound
    → sum_under (λ n. cond (nat_lt n low) (f n) 0) bound ≡ sum_under f low
sum_under-below f low bound within =
    let whole : (bound - low) + low ≡ bound = omega (arith, within) in
    subst (λ (n : ℕ). sum_under (λ m. cond (nat_lt m low) (f m) 0) n ≡ sum_under f low) whole
    (sum_under-part f low (bound - low))

-- what is recognised at rates under a bound is what is let through of each bidder's bids, added up
pub par_of-let_through : (bids : ℕ → ℕ → ℕ) (cap : ℕ) (limits : ℕ → ℕ) (bidders low bound : ℕ) (lines : List RateLine)
    → AreRecognised bids cap limits bidders lines
    → All (λ line. line.rate.steps < bound) lines
    → low ≤ bound
    → par_of lines (under low) ≡ sum_under (λ bidder. let_through (bids bidder) cap (limits bidder) low) bidders
par_of-let_through bids cap limits bidders low bound lines are rates_are within =
    let inside : All (IsInGrid bidders bound) lines = λ k d below. ((are.each k d below).known, rates_are k d below) in
    par_of-grid (under low) lines bidders bound inside
    ∙ sum_under_agree _ _ bidders (λ bidder known.
    sum_under_agree (passing (under low) (bid_in lines) bidder)
    (λ n. cond (nat_lt n low) (recognised_at (bids bidder) cap (limits bidder) n) 0) bound
    (λ steps less. ap (λ n. cond (nat_lt steps low) n 0)
    (bid_in-recognised bids cap limits bidders bidder steps lines are known))
    ∙ (sum_under-below (recognised_at (bids bidder) cap (limits bidder)) low bound within
    ∙ sum_under-recognised (bids bidder) cap (limits bidder) low))
