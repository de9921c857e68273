-- The awards of a bidding are those of what is recognised of its lines.
use Rattle.std.proofs.Common.{◌≡◌, ◌≢◌, ℕ, zero, suc, ◌+◌, ◌*◌, ◌/◌, ◌%◌, ◌<◌, ◌==◌, cond, nat_lt, if◌then◌else◌}
use Rattle.std.proofs.Common.{inl, inr, List, [], ◌∷◌, length, All, refl, sym, ap, ◌∙◌, arith}
use Rattle.std.specs.List.{AllPairs}
use Rattle.std.proofs.lemmas.Bool.{cases_Bool, both_ways, eqb-true, eq-eqb, ltb-true, lt-ltb}
use Rattle.std.proofs.lemmas.List.Elements.{All-head, All-tail}
use Rattle.std.proofs.lemmas.List.Sums.{sum_by-cons}
use Rattle.tb_units.specs.declared.rate.Rate.{Rate}
use Rattle.tb_units.specs.declared.lines.RateLine.{RateLine}
use Rattle.tb_units.proofs.ListLemmas.{AllPairs-head, AllPairs-tail}
use Rattle.tb_award.specs.Awards.{AreAwards, IsAward, IsProrated, awarded_to}
use Rattle.tb_award.specs.Limits.{cap_of}
use Rattle.tb_award.specs.Recognition.{bid_in, sum_under, recognised_at, limits_by, IsEarlier}
use Rattle.tb_award.proofs.BidLemmas.{IsBidOf, bid_in-none}
use Rattle.tb_history.specs.declared.roster.Enrolment.{Enrolment}
use Rattle.tb_history.specs.Values.{rounded_up}
use Rattle.tb_history.specs.Awarded.{Bidding, rates, recognised_for, prorated, stop_of}
use Rattle.tb_history.specs.Awarded.{percent_of, award_at, awards_under}
use Rattle.tb_history.specs.Readings.{AreDistinct, bidder_at, lines_of, positions_of, AreRecognisedOf}
use Rattle.tb_history.proofs.GridLemmas.{cell_of, sum_under_agree, sum_under_none, sum_under_once, other_rate}
use Rattle.tb_history.proofs.GridLemmas.{other_bidder, cases_bid, later-other, bid_in-recognised}
use Rattle.tb_history.proofs.FigureLemmas.{let_through-bidder, positions-length, rates-below}
use Rattle.tb_history.proofs.CutFigureLemmas.{rounded_up-is}

-- the award of so much that is recognised at a rate
abbrev pub award_cell : ℕ → ℕ → ℕ → ℕ → ℕ
award_cell stop percent steps recognised =
    if nat_lt steps stop then recognised else (if steps == stop then prorated percent recognised else 0)

-- a prorated award is the percentage rounded up to hundreds
prorated-is : (percent recognised award : ℕ) → IsProrated percent recognised award → award ≡ prorated percent recognised
prorated-is percent recognised award is =
    let hundreds : award ≡ 100 * (award / 100) = omega (arith, is.hundreds) in
    let up : rounded_up (percent * recognised) 1000000 ≡ award / 100 =
    rounded_up-is (percent * recognised) 1000000 (award / 100) (omega arith) (omega (arith, is.enough, hundreds))
    (λ other reached.
    let multiple : 100 * other % 100 ≡ 0 = omega arith in
    omega (arith, is.least (100 * other) multiple (omega (arith, reached)), hundreds)) in
    omega (arith, hundreds, up)

-- a percentage of nothing is nothing
prorated-zero : (percent : ℕ) → prorated percent 0 ≡ 0
prorated-zero percent =
    let up : rounded_up (percent * 0) 1000000 ≡ 0 =
    rounded_up-is (percent * 0) 1000000 0 (omega arith) (omega arith) (λ other reached. omega arith) in
    omega (arith, up)

-- of nothing nothing is awarded
pub award_cell-zero : (stop percent steps : ℕ) → award_cell stop percent steps 0 ≡ 0
award_cell-zero stop percent steps =
    elim (cases_Bool (nat_lt steps stop)) [
      | inl low ↦ rw low refl
      | inr high ↦ elim (cases_Bool (steps == stop))
          [ inl at ↦ rw (high, at) (prorated-zero percent) | inr above ↦ rw (high, above) refl ]
    ]

-- an award of a line is that of its amount at its rate
award_cell-is : (stop percent steps recognised award : ℕ)
    → IsAward stop percent steps recognised award
    → award ≡ award_cell stop percent steps recognised
award_cell-is stop percent steps recognised award is =
    elim (cases_Bool (nat_lt steps stop)) [
      | inl low ↦ rw low (is.whole (ltb-true steps stop low))
      | inr high ↦ elim (cases_Bool (steps == stop)) [
        | inl at ↦ rw (high, at) (prorated-is percent recognised award (is.prorated (eqb-true steps stop at)))
        | inr above ↦
            let apart : steps ≢ stop = λ same. both_ways (steps == stop) above (eq-eqb steps stop same) in
            let not_low : ¬ (steps < stop) = λ low. both_ways (nat_lt steps stop) high (lt-ltb steps stop low) in
            rw (high, above) (is.nothing (omega (arith, apart, not_low)))
      ]
    ]

-- what the award lines have of a bidder at a rate is the award of what is recognised of it there
bid_in-awards : (stop percent : ℕ) (lines awards : List RateLine) (bidder steps : ℕ)
    → AllPairs IsEarlier lines
    → AreAwards stop percent lines awards
    → bid_in awards bidder steps ≡ award_cell stop percent steps (bid_in lines bidder steps)
bid_in-awards stop percent [] [] bidder steps order are = sym (award_cell-zero stop percent steps)
bid_in-awards stop percent [] (award ∷ awards) bidder steps order are = absurd are
bid_in-awards stop percent (line ∷ lines) [] bidder steps order are = absurd are
bid_in-awards stop percent (line ∷ lines) (award ∷ awards) bidder steps order are =
    let rest = bid_in-awards stop percent lines awards bidder steps (AllPairs-tail IsEarlier line lines order) are.3 in
    let split = sum_by-cons (λ (l : RateLine). cell_of l bidder steps) line lines in
    let split_awards = sum_by-cons (λ (l : RateLine). cell_of l bidder steps) award awards in
    let same_rate : award.rate.steps ≡ line.rate.steps = ap (λ (r : Rate). r.steps) are.0 in
    elim (cases_bid bidder steps line) [
      | inl is ↦
          let none = bid_in-none lines bidder steps
          (later-other line lines bidder steps (AllPairs-head IsEarlier line lines order) is) in
          let here : cell_of line bidder steps ≡ line.amount.value =
          rw (eq-eqb line.bidder bidder is.0, eq-eqb line.rate.steps steps is.1) refl in
          let there : cell_of award bidder steps ≡ award.amount.value =
          rw (eq-eqb award.bidder bidder (are.1 ∙ is.0), eq-eqb award.rate.steps steps (same_rate ∙ is.1)) refl in
          let nothing : bid_in awards bidder steps ≡ 0 =
          rest ∙ (ap (award_cell stop percent steps) none ∙ award_cell-zero stop percent steps) in
          let amount : award.amount.value ≡ award_cell stop percent steps line.amount.value =
          award_cell-is stop percent line.rate.steps line.amount.value award.amount.value are.2
          ∙ ap (λ s. award_cell stop percent s line.amount.value) is.1 in
          let whole : bid_in (line ∷ lines) bidder steps ≡ line.amount.value = omega (arith, split, here, none) in
          rw whole (omega (arith, split_awards, there, nothing, amount))
      | inr isnt ↦
          let here : cell_of line bidder steps ≡ 0 = none_of line bidder steps isnt in
          let there : cell_of award bidder steps ≡ 0 =
          none_of award bidder steps (λ is. isnt (sym are.1 ∙ is.0, sym same_rate ∙ is.1)) in
          let whole : bid_in (line ∷ lines) bidder steps ≡ bid_in lines bidder steps = omega (arith, split, here) in
          rw whole (omega (arith, split_awards, there, rest))
    ]
  where
    -- a line of another bid has nothing there
    none_of : (line : RateLine) (bidder steps : ℕ) → ¬ (IsBidOf bidder steps line) → cell_of line bidder steps ≡ 0
    none_of line bidder steps isnt =
        elim (cases_Bool (line.bidder == bidder)) [
          | inl own ↦ other_rate line bidder steps (λ same. isnt (eqb-true line.bidder bidder own, sym same))
          | inr other ↦ rw other refl
        ]

-- a bidder's part of lines is what they have of it at all rates
row_line : (line : RateLine) (bidder bound : ℕ)
    → line.rate.steps < bound
    → sum_under (cell_of line bidder) bound ≡ cond (line.bidder == bidder) line.amount.value 0
row_line line bidder bound within =
    elim (cases_Bool (line.bidder == bidder)) [
      | inl own ↦
          let same : line.bidder ≡ bidder = eqb-true line.bidder bidder own in
          let here : cell_of line bidder line.rate.steps ≡ line.amount.value =
          rw (own, eq-eqb line.rate.steps line.rate.steps refl) refl in
          rw own (sum_under_once (cell_of line bidder) line.rate.steps bound within
          (λ steps below apart. other_rate line bidder steps apart) ∙ here)
      | inr other ↦
          let apart : bidder ≢ line.bidder =
          λ same. both_ways (line.bidder == bidder) other (eq-eqb line.bidder bidder (sym same)) in
          rw other (sum_under_none (cell_of line bidder) bound (λ steps below. other_bidder line bidder steps apart))
    ]

-- a sum of two sums
sum_under_sum : (f g : ℕ → ℕ) (bound : ℕ) → sum_under (λ n. f n + g n) bound ≡ sum_under f bound + sum_under g bound
sum_under_sum f g zero = refl
sum_under_sum f g (suc bound) = omega (arith, sum_under_sum f g bound)

-- all its lines
awarded_to-row : (lines : List RateLine) (bidder bound : ℕ)
    → All (λ line. line.rate.steps < bound) lines
    → awarded_to bidder lines ≡ sum_under (bid_in lines bidder) bound
awarded_to-row [] bidder bound within = sym (sum_under_none (bid_in [] bidder) bound (λ n below. refl))
awarded_to-row (line ∷ lines) bidder bound within =
    let P : RateLine → Type 0 = λ l. l.rate.steps < bound in
    let split : sum_under (bid_in (line ∷ lines) bidder) bound ≡ sum_under (cell_of line bidder) bound
    + sum_under (bid_in lines bidder) bound =
    sum_under_agree (bid_in (line ∷ lines) bidder) (λ n. cell_of line bidder n + bid_in lines bidder n) bound
    (λ n below. sum_by-cons (λ (l : RateLine). cell_of l bidder n) line lines)
    ∙ sum_under_sum (cell_of line bidder) (bid_in lines bidder) bound in
    omega (
      arith,
      sum_by-cons (λ (l : RateLine). cond (l.bidder == bidder) l.amount.value 0) line lines,
      split,
      row_line line bidder bound (All-head P line lines within),
      awarded_to-row lines bidder bound (All-tail P line lines within),
    )

-- what is recognised of a number's lines at a rate is what is recognised of its bidder
recognised_at-bidder : (bidding : Bidding) (number steps : ℕ) (d : Enrolment)
    → AreDistinct bidding.enrolled
    → number < length bidding.enrolled
    → recognised_at (bid_in (lines_of bidding) number) (cap_of bidding.announcement.offering.value)
    (limits_by bidding.announcement.offering.value (positions_of bidding) number) steps
    ≡ recognised_for bidding (bidder_at bidding.enrolled number d) steps
recognised_at-bidder bidding number steps d distinct within =
    rw (
      let_through-bidder bidding number (suc steps)
          d distinct within,
      let_through-bidder bidding number steps d distinct within,
    ) refl

-- the awards of a bidder's number are the bidder's
pub awarded_to-bidding : (bidding : Bidding) (recognised awards : List RateLine) (number : ℕ) (d : Enrolment)
    → AreDistinct bidding.enrolled
    → AreRecognisedOf bidding recognised
    → AreAwards (stop_of bidding) (percent_of bidding) recognised awards
    → number < length bidding.enrolled
    → awarded_to number awards ≡ awards_under bidding (bidder_at bidding.enrolled number d) rates
unfolding awards_under
awarded_to-bidding bidding recognised awards number d distinct are awards_are within =
    let name = bidder_at bidding.enrolled number d in
    let known : number < length (positions_of bidding) = omega (arith, positions-length bidding, within) in
    let bids = bid_in (lines_of bidding) in
    let cap_is = cap_of bidding.announcement.offering.value in
    let limits = limits_by bidding.announcement.offering.value (positions_of bidding) in
    awarded_to-row awards number rates (rates-below awards)
    ∙ sum_under_agree (bid_in awards number) (award_at bidding name) rates (λ steps below.
    bid_in-awards (stop_of bidding) (percent_of bidding) recognised awards number steps are.order awards_are
    ∙ ap (award_cell (stop_of bidding) (percent_of bidding) steps)
    (bid_in-recognised bids cap_is limits (length (positions_of bidding)) number steps recognised are known
    ∙ recognised_at-bidder bidding number steps d distinct within))
