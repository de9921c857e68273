-- The stop-out rate and the percentage of a bidding are those of its cut.
use Rattle.std.proofs.Common.{◌≡◌, ◌≢◌, ℕ, zero, suc, ◌+◌, ◌-◌, ◌*◌, ◌/◌, ◌%◌, ◌<◌, ◌≤◌, ◌==◌, Bool, true, false, cond}
use Rattle.std.proofs.Common.{nat_lt, nat_le, min, inl, inr, List, [], ◌∷◌, get_or, refl, sym, ◌∙◌, subst, arith}
use Rattle.std.proofs.Math.Nat.{mul-le-mul_right}
use Rattle.std.proofs.lemmas.Bool.{cases_Bool, both_ways, false_from_ne_true, leb-true}
use Rattle.std.proofs.lemmas.Bool.{le-leb, leb-false, ltb-true, lt-ltb, eqb-true}
use Rattle.std.proofs.lemmas.Grind.{div_ceil_times}
use Rattle.std.proofs.lemmas.List.Sums.{sum_by-cons}
use Rattle.tb_units.specs.declared.lines.RateLine.{RateLine}
use Rattle.tb_award.specs.Cuts.{par_of, under, at, over, up_to, total_of, amount_of, steps_of}
use Rattle.tb_award.specs.Cuts.{IsCut, Reaches, FallsShort, hundred_percent}
use Rattle.tb_award.proofs.CutLemmas.{par_of-le, par_of-whole, par_of-agree, par_of-split}
use Rattle.tb_history.specs.Values.{first_from, rounded_up}
use Rattle.tb_history.specs.Awarded.{Bidding, rates, par_under, par_in_all, sought_in, wanted_in, stop_of, percent_of}
use Rattle.tb_history.specs.Readings.{AreDistinct, AreRecognisedOf}
use Rattle.tb_history.proofs.FigureLemmas.{par_of-bidding}

-- the first number that passes is found
pub first_from-is : (passes : ℕ → Bool) (from more number : ℕ)
    → from ≤ number
    → number < more + from
    → passes number ≡ true
    → ((earlier : ℕ) → from ≤ earlier → earlier < number → passes earlier ≡ false)
    → first_from passes from more ≡ number
unfolding first_from
first_from-is passes from zero number least most holds before = absurd (omega (arith, least, most))
first_from-is passes from (suc more) number least most holds before =
    elim (cases_Bool (passes from)) [
      | inl here ↦
          let not_later : ¬ (from < number) = λ later. both_ways (passes from) (before from (omega arith) later) here in
          let same : from ≡ number = omega (arith, least, not_later) in
          rw here same
      | inr fails ↦
          let apart : from ≢ number =
          λ same. both_ways (passes from) fails (subst (λ (n : ℕ). passes n ≡ true) (sym same) holds) in
          rw fails (first_from-is passes (suc from) more number (omega (arith, least, apart)) (omega (arith, most))
          holds (λ earlier low high. before earlier (omega (arith, low)) high))
    ]

-- a quotient rounded up is the least number that reaches
pub rounded_up-is : (number divisor quotient : ℕ)
    → 0 < divisor
    → number ≤ quotient * divisor
    → ((other : ℕ) → number ≤ other * divisor → quotient ≤ other)
    → rounded_up number divisor ≡ quotient
unfolding rounded_up
rounded_up-is number divisor quotient some enough least =
    let bounds = div_ceil_times number divisor some in
    let up = number / divisor + min 1 (number % divisor) in
    let not_less : quotient ≤ up = least up bounds.0 in
    let not_more : ¬ (quotient < up) = λ more.
    let step : (quotient + 1) * divisor ≤ up * divisor = mul-le-mul_right divisor (omega (arith, more)) in
    let whole : (quotient + 1) * divisor ≡ quotient * divisor + divisor = omega arith in
    omega (arith, step, whole, bounds.1, enough) in
    omega (arith, not_less, not_more)

-- the rates up to one are those under the next
up_to-next : (stop steps : ℕ) → up_to stop steps ≡ under (suc stop) steps
up_to-next stop steps =
    elim (cases_Bool (nat_le steps stop)) [
      | inl low ↦ rw low (sym (lt-ltb steps (suc stop) (omega (arith, leb-true steps stop low))))
      | inr high ↦ rw high (sym (false_from_ne_true _
          (λ is. absurd (omega (arith, leb-false steps stop high, ltb-true steps (suc stop) is)))))
    ]

-- all is at rates up to one or over it
share_over : (stop steps amount : ℕ) → amount ≡ cond (up_to stop steps) amount 0 + cond (over stop steps) amount 0
share_over stop steps amount =
    elim (cases_Bool (nat_le steps stop)) [
      | inl low ↦ let not_over : nat_lt stop steps ≡ false =
          false_from_ne_true _ (λ is. absurd (omega (arith, leb-true steps stop low, ltb-true stop steps is))) in
          rw (low, not_over) (omega arith)
      | inr high ↦ let is_over : nat_lt stop steps ≡ true = lt-ltb stop steps (leb-false steps stop high) in
          rw (high, is_over) (omega arith)
    ]

-- of all lines
total-over : (stop : ℕ) (lines : List RateLine) → total_of lines ≡ par_of lines (up_to stop) + par_of lines (over stop)
total-over stop [] = refl
total-over stop (line ∷ lines) =
    omega (
      arith,
      sum_by-cons amount_of line lines,
      sum_by-cons (λ (l : RateLine). cond (up_to stop l.rate.steps) l.amount.value 0) line lines,
      sum_by-cons (λ (l : RateLine). cond (over stop l.rate.steps) l.amount.value 0) line lines,
      total-over stop lines,
      share_over stop line.rate.steps line.amount.value,
    )

-- all rates are under the last
total-under : (lines : List RateLine) → total_of lines ≡ par_of lines (under rates)
total-under lines =
    par_of-whole (under rates) lines (λ k d below. lt-ltb (steps_of (get_or lines k d)) rates
    (omega (arith, (get_or lines k d).rate.in_range)))

-- the figures of what is recognised of a bidding, in the bidding's words
pub record HasPar (bidding : Bidding) (recognised : List RateLine) : Type 0 where
  pub total : total_of recognised ≡ par_under bidding rates
  pub below : (steps : ℕ) → steps ≤ rates → par_of recognised (under steps) ≡ par_under bidding steps
  pub up : (steps : ℕ) → steps < rates → par_of recognised (up_to steps) ≡ par_under bidding (suc steps)

-- they are
pub HasPar-bidding : (bidding : Bidding) (recognised : List RateLine)
    → AreDistinct bidding.enrolled
    → AreRecognisedOf bidding recognised
    → HasPar bidding recognised
HasPar-bidding bidding recognised distinct are = record {
  total = total-under recognised ∙ par_of-bidding bidding recognised rates distinct are (omega arith);
  below = λ steps within. par_of-bidding bidding recognised steps distinct are within;
  up = λ steps within.
      par_of-agree (up_to steps) (under (suc steps)) recognised (up_to-next steps)
      ∙ par_of-bidding bidding recognised (suc steps) distinct are (omega (arith, within));
}

-- nothing is at rates under 0
under-zero : (lines : List RateLine) → par_of lines (under 0) ≡ 0
under-zero [] = refl
under-zero (line ∷ lines) =
    let none : nat_lt line.rate.steps 0 ≡ false =
    false_from_ne_true _ (λ is. absurd (omega (arith, ltb-true line.rate.steps 0 is))) in
    let here : cond (nat_lt line.rate.steps 0) line.amount.value 0 ≡ 0 = rw none refl in
    omega (
      arith,
      sum_by-cons (λ (l : RateLine). cond (nat_lt l.rate.steps 0) l.amount.value 0)
          line lines,
      here,
      under-zero lines,
    )

-- what the bidding's stop and percentage are found by: a stop at or below which what is wanted is recognised, and no
-- lower one, with something at it
pub record IsFound (bidding : Bidding) (recognised : List RateLine) (stop percent : ℕ) : Type 0 where
  pub inside : stop < rates
  pub reached : wanted_in bidding ≤ par_under bidding (suc stop)
  pub least : (steps : ℕ) → steps < stop → par_under bidding (suc steps) < wanted_in bidding
  pub some : 0 < par_of recognised (at stop)
  pub enough : hundred_percent * (wanted_in bidding - par_under bidding stop) ≤ percent * par_of recognised (at stop)
  pub least_percent : (other : ℕ)
      → hundred_percent * (wanted_in bidding - par_under bidding stop) ≤ other * par_of recognised (at stop)
      → percent ≤ other

-- they are the bidding's
pub IsFound-figures : (bidding : Bidding) (recognised : List RateLine) (stop percent : ℕ)
    → HasPar bidding recognised
    → IsFound bidding recognised stop percent
    → (stop ≡ stop_of bidding) × (percent ≡ percent_of bidding)
unfolding stop_of percent_of
IsFound-figures bidding recognised stop percent par found =
    let passes : ℕ → Bool = λ steps. nat_le (wanted_in bidding) (par_under bidding (suc steps)) in
    let stop_is : stop_of bidding ≡ stop =
    first_from-is passes 0 rates stop (omega arith) (omega (arith, found.inside))
    (le-leb (wanted_in bidding) (par_under bidding (suc stop)) found.reached)
    (λ earlier low before. false_from_ne_true _
    (λ is. absurd (omega (
      arith,
      leb-true (wanted_in bidding) (par_under bidding (suc earlier))
          is,
      found.least earlier before,
    )))) in
    let at_stop : par_under bidding (suc stop) - par_under bidding stop ≡ par_of recognised (at stop) =
    omega (
      arith,
      par_of-split stop recognised,
      par.up stop found.inside,
      par.below stop
          (omega (arith, found.inside)),
    ) in
    let percent_is : rounded_up (10000 * (wanted_in bidding - par_under bidding stop)) (par_of recognised (at stop))
    ≡ percent =
    rounded_up-is (10000 * (wanted_in bidding - par_under bidding stop)) (par_of recognised (at stop))
    percent found.some found.enough found.least_percent in
    (sym stop_is, sym (rw (stop_is, at_stop) percent_is))

-- bids that reach what is sought
reaches-found : (bidding : Bidding) (recognised : List RateLine) (stop percent : ℕ)
    → HasPar bidding recognised
    → 0 < sought_in bidding
    → Reaches (par_of recognised) (sought_in bidding) stop percent
    → IsFound bidding recognised stop percent
unfolding wanted_in par_in_all
reaches-found bidding recognised stop percent par some reaches =
    let sought = sought_in bidding in
    let within : sought ≤ total_of recognised = omega (arith, reaches.reached, par_of-le (up_to stop) recognised) in
    let top : sought ≤ par_of recognised (up_to 199999) =
    omega (arith, within, par.total, par.up 199999 (omega arith)) in
    let inside : stop < rates = omega (arith, reaches.least 199999 top) in
    let wanted : min sought (par_under bidding rates) ≡ sought = omega (arith, within, par.total) in
    let low = par.below stop (omega (arith, inside)) in
    let at_some : 0 < par_of recognised (at stop) = something stop (reaches.reached) (reaches.least) in
    record {
      inside = inside;
      reached = omega (arith, reaches.reached, par.up stop inside);
      least = λ steps before.
          let short : ¬ (sought ≤ par_of recognised (up_to steps)) =
          λ reached. absurd (omega (arith, before, reaches.least steps reached)) in
          omega (arith, short, par.up steps (omega (arith, before, inside)), wanted);
      some = at_some;
      enough = rw wanted (subst (λ (n : ℕ). 10000 * (sought - n) ≤ percent * par_of recognised (at stop))
          low reaches.enough);
      least_percent =
          λ other reached. reaches.least_percent other
          (subst (λ (n : ℕ). 10000 * (sought - n) ≤ other * par_of recognised (at stop)) (sym low)
          (rw wanted at reached));
    }
  where
    -- where something is sought, something is recognised at the least rate that reaches it
    something : (stop : ℕ)
        → sought_in bidding ≤ par_of recognised (up_to stop)
        → ((steps : ℕ) → sought_in bidding ≤ par_of recognised (up_to steps) → stop ≤ steps)
        → 0 < par_of recognised (at stop)
    something zero reached least = omega (arith, reached, some, par_of-split 0 recognised, under-zero recognised)
    something (suc before) reached least =
        let lower : par_of recognised (under (suc before)) ≡ par_of recognised (up_to before) =
        sym (par_of-agree (up_to before) (under (suc before)) recognised (up_to-next before)) in
        let short : ¬ (sought_in bidding ≤ par_of recognised (up_to before)) =
        λ enough. absurd (omega (arith, least before enough)) in
        omega (arith, reached, short, lower, par_of-split (suc before) recognised)

-- bids that fall short of it
short-found : (bidding : Bidding) (recognised : List RateLine) (stop percent : ℕ)
    → HasPar bidding recognised
    → FallsShort (par_of recognised) (sought_in bidding) stop percent
    → IsFound bidding recognised stop percent
unfolding wanted_in par_in_all
short-found bidding recognised stop percent par short =
    let sought = sought_in bidding in
    let less : total_of recognised < sought =
    omega (arith, short.short 199999, par.total, par.up 199999 (omega arith)) in
    let wanted : min sought (par_under bidding rates) ≡ total_of recognised = omega (arith, less, par.total) in
    let inside : stop < rates = bounded stop short.bid in
    let all : total_of recognised ≡ par_of recognised (up_to stop) =
    omega (arith, total-over stop recognised, short.greatest) in
    let split = par_of-split stop recognised in
    let low = par.below stop (omega (arith, inside)) in
    let missing : total_of recognised - par_under bidding stop ≡ par_of recognised (at stop) =
    omega (arith, all, split, low) in
    record {
      inside = inside;
      reached = omega (arith, wanted, all, par.up stop inside);
      least = λ steps before.
          let under_stop : par_under bidding (suc steps) ≤ par_of recognised (under stop) = lower steps before inside in
          omega (arith, under_stop, wanted, all, split, short.bid);
      some = short.bid;
      enough = rw (wanted, missing, short.whole) (omega arith);
      least_percent = λ other reached.
          let now : 10000 * par_of recognised (at stop) ≤ other * par_of recognised (at stop) =
          rw (wanted, missing) at reached in
          let not_less : ¬ (other < 10000) = λ few.
          let step : (other + 1) * par_of recognised (at stop) ≤ 10000 * par_of recognised (at stop) =
          mul-le-mul_right (par_of recognised (at stop)) (omega (arith, few)) in
          let whole : (other + 1) * par_of recognised (at stop) ≡ other * par_of recognised (at stop)
          + par_of recognised (at stop) =
          omega arith in
          omega (arith, step, whole, now, short.bid) in
          omega (arith, not_less, short.whole);
    }
  where
    -- one amount counts under a higher rate where it counts under a lower one
    share : (steps amount one other : ℕ)
        → one ≤ other
        → cond (nat_lt steps one) amount 0 ≤ cond (nat_lt steps other) amount 0
    share steps amount one other order =
        elim (cases_Bool (nat_lt steps one)) [
          | inl low ↦ let also : nat_lt steps other ≡ true =
              lt-ltb steps other (omega (arith, ltb-true steps one low, order)) in rw (low, also) (omega arith)
          | inr high ↦ rw high (omega arith)
        ]

    -- so no less stands under a higher rate
    rises : (one other : ℕ) (lines : List RateLine)
        → one ≤ other
        → par_of lines (under one) ≤ par_of lines (under other)
    rises one other [] order = omega arith
    rises one other (line ∷ lines) order =
        omega (
          arith,
          sum_by-cons (λ (l : RateLine). cond (nat_lt l.rate.steps one) l.amount.value 0) line lines,
          sum_by-cons (λ (l : RateLine). cond (nat_lt l.rate.steps other) l.amount.value 0) line lines,
          rises one other lines order,
          share line.rate.steps line.amount.value one other order,
        )

    -- what stands up to a rate under the stop is part of what stands under the stop
    lower : (steps : ℕ) → steps < stop → stop < rates → par_under bidding (suc steps) ≤ par_of recognised (under stop)
    lower steps before inside =
        omega (
          arith,
          sym (par.below (suc steps) (omega (arith, before, inside))),
          rises (suc steps) stop recognised
              (omega (arith, before)),
        )

    -- a rate at which something stands is one of the rates
    at_rate : (lines : List RateLine) (stop : ℕ) → 0 < par_of lines (at stop) → stop < rates
    at_rate [] stop bid = absurd (omega (arith, bid))
    at_rate (line ∷ lines) stop bid =
        elim (cases_Bool (line.rate.steps == stop)) [
          | inl here ↦ omega (arith, eqb-true line.rate.steps stop here, line.rate.in_range)
          | inr other ↦
              let none : cond (line.rate.steps == stop) line.amount.value 0 ≡ 0 = rw other refl in
              at_rate lines stop (omega (
                arith,
                bid,
                none,
                sum_by-cons
                    (λ (l : RateLine). cond (l.rate.steps == stop) l.amount.value 0) line lines,
              ))
        ]

    -- so the stop is one of them
    bounded : (stop : ℕ) → 0 < par_of recognised (at stop) → stop < rates
    bounded stop bid = at_rate recognised stop bid

-- the stop-out rate and the percentage of a bidding are those of the cut of what is recognised
pub IsCut-figures : (bidding : Bidding) (recognised : List RateLine) (stop percent : ℕ)
    → HasPar bidding recognised
    → 0 < sought_in bidding
    → IsCut (par_of recognised) (sought_in bidding) stop percent
    → (stop ≡ stop_of bidding) × (percent ≡ percent_of bidding)
IsCut-figures bidding recognised stop percent par some (inl reaches) =
    IsFound-figures bidding recognised stop percent par (reaches-found bidding recognised stop percent par some reaches)
IsCut-figures bidding recognised stop percent par some (inr short) =
    IsFound-figures bidding recognised stop percent par (short-found bidding recognised stop percent par short)
