-- What a bidder is awarded, by its number, and what it pays.
use Rattle.std.proofs.Common.{◌≡◌, ℕ, ◌+◌, ◌<◌, ◌≤◌, ◌==◌, ◌&&◌, ◌||◌, suc, get_or, take, Bool, true, false, cond, nat_lt, nat_le, Option, Some, None, is_some, is_none, inl, inr, List, [], ◌∷◌, ◌++◌, length, sum_by, All, refl, sym, ap, ap₂, ◌∙◌, subst, arith, append-nil}
use Rattle.std.specs.Prelude.{if◌then◌else◌}
use Rattle.std.specs.List.{filter, list_any, position_or_len}
use Rattle.std.proofs.lemmas.Bool.{cases_Bool, both_ways, eqb-true, eq-eqb, false_from_ne_true, le-leb, lt-ltb}
use Rattle.std.proofs.lemmas.List.{take_more}
use Rattle.std.proofs.lemmas.List.Elements.{All-head, All-tail, filter-append}
use Rattle.std.proofs.lemmas.List.Sums.{sum_by-cons, position_or_len_is, passes_at_first}
use Rattle.tb_units.specs.declared.amount.Dollars.{Dollars}
use Rattle.tb_units.specs.declared.lines.RateLine.{RateLine}
use Rattle.tb_units.specs.declared.rate.Rate.{Rate}
use Rattle.tb_units.proofs.SumLemmas.{sum_by-filter, sum_by_agree}
use Rattle.tb_price.specs.Prices.{IsPrice}
use Rattle.tb_price.specs.Payments.{IsPayment}
use Rattle.tb_award.specs.declared.outcome.Cut.{Cut}
use Rattle.tb_award.specs.declared.outcome.Outcome.{Outcome}
use Rattle.tb_award.specs.declared.outcome.Outcome.TheVariants as outcome
use Rattle.tb_award.specs.Awards.{AreAwards, IsAward, IsInHundreds}
use Rattle.tb_award.specs.Cuts.{amount_of, total_of}
use Rattle.tb_award.proofs.AwardLemmas.{AreAwards-within, AreAwards_push, awarded_to-le, awarded_to_push, total-within}
use Rattle.tb_award.proofs.RecognitionLemmas.{IsRecognitionOf-hundreds}
use Rattle.tb_book.specs.declared.book_line.BookLine.{BookLine}
use Rattle.tb_book.specs.Books as books
use Rattle.tb_book.specs.Books.{most_bid}
use Rattle.tb_history.specs.declared.roster.Enrolment.{Enrolment}
use Rattle.tb_history.specs.declared.bids.Bid.{Bid}
use Rattle.tb_history.specs.declared.accounts.AddOn.{AddOn}
use Rattle.tb_history.specs.declared.readings.AwardLine.{AwardLine}
use Rattle.tb_history.specs.Entries.{is_same}
use Rattle.tb_history.specs.Awarded.{Bidding, awarded, noncompetitive_of, par_in_all, par_under, percent_of, rates, stop_of, wanted_in}
use Rattle.tb_history.specs.Readings.{AreAwardLines, AreDistinct, IsAwardLine, IsPaid, bidder_at, days_of, has_bid, lines_of, place_of, positions_of}
use Rattle.tb_history.specs.Holdings.{if_awarded, par_added}
use Rattle.tb_history.proofs.SameLemmas.{is_same-equal, is_same-refl}
use Rattle.tb_history.proofs.AwardFigureLemmas.{awarded_to-bidding}
use Rattle.tb_history.proofs.CloseLemmas.{recognised-none_is}
use Rattle.tb_history.proofs.CutFigureLemmas.{HasPar-bidding, IsCut-figures, first_from-is}
use Rattle.tb_results.specs.Biddings.{AreBooked, IsSound}
use Rattle.tb_results.specs.Outcomes.{AwardsComeTo, IsCutIn, bidders_among}
use Rattle.tb_results.proofs.BookedLemmas.{hundreds-lines_of, par-shared, sum_by-booked, sum_by-lines_of}

-- a bidder is at its place
pub place_of-at : (enrolled : List Enrolment) (number : ℕ) (d : Enrolment)
    → AreDistinct enrolled
    → number < length enrolled
    → place_of enrolled (bidder_at enrolled number d) ≡ number
place_of-at enrolled number d distinct within =
    let name = bidder_at enrolled number d in
    let test : Enrolment → Bool = λ (e : Enrolment). is_same e.bidder name in
    position_or_len_is test enrolled number d (omega (arith, within))
    (λ k before. false_from_ne_true _ (λ same. distinct k number d before within
    (is_same-equal (bidder_at enrolled k d) name same)))
    (λ inside. is_same-refl name)

-- another bidder's place is that number just where it is that bidder
pub place_of-is : (enrolled : List Enrolment) (number : ℕ) (d : Enrolment) (other : List ℕ)
    → AreDistinct enrolled → number < length enrolled
    → (place_of enrolled other == number) ≡ is_same other (bidder_at enrolled number d)
place_of-is enrolled number d other distinct within =
    let name = bidder_at enrolled number d in
    let placed = place_of-at enrolled number d distinct within in
    let test : Enrolment → Bool = λ (e : Enrolment). is_same e.bidder other in
    elim (cases_Bool (is_same other name)) [
      | inl same ↦ rw same (eq-eqb (place_of enrolled other) number
          (ap (place_of enrolled) (is_same-equal other name same) ∙ placed))
      | inr apart ↦ rw apart (false_from_ne_true _ (λ equal.
          let there : place_of enrolled other ≡ number = eqb-true (place_of enrolled other) number equal in
          let inside : position_or_len test enrolled < length enrolled = omega (arith, there, within) in
          let passes : test (bidder_of (position_or_len test enrolled)) ≡ true =
          passes_at_first test enrolled d inside in
          let here : is_same name other ≡ true =
          subst (λ (n : ℕ). is_same (bidder_at enrolled n d) other ≡ true) there passes in
          both_ways (is_same other name) apart (subst (λ (x : List ℕ). is_same x name ≡ true)
          (is_same-equal name other here) (is_same-refl name))))
    ]
  where
    bidder_of : ℕ → Enrolment
    bidder_of n = get_or enrolled n d

-- two tests one after the other
and-swap : (p q : Bool) (n : ℕ) → cond (p && q) n 0 ≡ cond q (cond p n 0) 0
and-swap true true n = refl
and-swap true false n = refl
and-swap false true n = refl
and-swap false false n = refl

-- a number's noncompetitive lines are its bidder's noncompetitive live bids
pub noncompetitive_of-booked : (bidding : Bidding) (lines : List BookLine) (number : ℕ) (d : Enrolment)
    → IsSound bidding
    → AreBooked bidding lines
    → number < length bidding.enrolled
    → books.noncompetitive_of number lines ≡ noncompetitive_of bidding (bidder_at bidding.enrolled number d)
noncompetitive_of-booked bidding lines number d sound booked within =
    let name = bidder_at bidding.enrolled number d in
    let amount : Bid → ℕ = λ (bid : Bid). bid.amount.value in
    let own : Bid → Bool = λ (bid : Bid). is_same bid.bidder name in
    let none : Bid → Bool = λ (bid : Bid). is_none bid.rate in
    sum_by-booked (λ (line : BookLine). cond ((line.bidder == number) && is_none line.rate) line.amount.value 0) bidding
    lines booked
    ∙ sum_by_agree (λ (bid : Bid). cond ((place_of bidding.enrolled bid.bidder == number) && none bid) (amount bid) 0)
    (λ (bid : Bid). cond (none bid) (cond (own bid) (amount bid) 0) 0) bidding.live
    (λ bid. ap (λ b. cond (b && none bid) (amount bid) 0)
    (place_of-is bidding.enrolled number d bid.bidder sound.distinct within)
    ∙ and-swap (own bid) (none bid) (amount bid))
    ∙ sym (sum_by-filter (λ (bid : Bid). cond (own bid) (amount bid) 0) none bidding.live)
    ∙ sym (sum_by-filter amount own (filter none bidding.live))

-- a bid is of one kind
kinds : (own : Bool) (rate : Option Rate) (n : ℕ)
    → cond (own && is_some rate) n 0 + cond (own && is_none rate) n 0 ≡ cond own n 0
kinds true None n = omega arith
kinds true (Some rate) n = omega arith
kinds false None n = refl
kinds false (Some rate) n = refl

-- both kinds of a number's bids are its bidder's bids
kinds-joined : (enrolled : List Enrolment) (live : List Bid) (number : ℕ) (d : Enrolment)
    → AreDistinct enrolled
    → number < length enrolled
    → sum_by (λ (bid : Bid). cond ((place_of enrolled bid.bidder == number) && is_some bid.rate)
    bid.amount.value 0) live
    + sum_by (λ (bid : Bid). cond ((place_of enrolled bid.bidder == number) && is_none bid.rate)
    bid.amount.value 0) live
    ≡ sum_by (λ (bid : Bid). cond (is_same bid.bidder (bidder_at enrolled number d)) bid.amount.value 0) live
kinds-joined enrolled [] number d distinct within = refl
kinds-joined enrolled (bid ∷ live) number d distinct within =
    let here : cond ((place_of enrolled bid.bidder == number) && is_some bid.rate) bid.amount.value 0
    + cond ((place_of enrolled bid.bidder == number) && is_none bid.rate) bid.amount.value 0
    ≡ cond (is_same bid.bidder (bidder_at enrolled number d)) bid.amount.value 0 =
    kinds (place_of enrolled bid.bidder == number) bid.rate bid.amount.value
    ∙ ap (λ b. cond b bid.amount.value 0) (place_of-is enrolled number d bid.bidder distinct within) in
    omega (
      arith,
      sum_by-cons
          (λ (b : Bid). cond ((place_of enrolled b.bidder == number) && is_some b.rate) b.amount.value 0) bid live,
      sum_by-cons
          (λ (b : Bid). cond ((place_of enrolled b.bidder == number) && is_none b.rate) b.amount.value 0) bid live,
      sum_by-cons (λ (b : Bid). cond (is_same b.bidder (bidder_at enrolled number d)) b.amount.value 0) bid live,
      here,
      kinds-joined enrolled live number d distinct within,
    )

-- there is par of bids that pass just where one passes
par-listed : (test : Bid → Bool) (live : List Bid)
    → All (λ (bid : Bid). 0 < bid.amount.value) live
    → nat_lt 0 (sum_by (λ (bid : Bid). cond (test bid) bid.amount.value 0) live) ≡ list_any test live
par-listed test [] some = refl
par-listed test (bid ∷ live) some =
    let P : Bid → Type 0 = λ (b : Bid). 0 < b.amount.value in
    let f : Bid → ℕ = λ (b : Bid). cond (test b) b.amount.value 0 in
    let parts = sum_by-cons f bid live in
    let here : 0 < bid.amount.value = All-head P bid live some in
    elim (cases_Bool (test bid)) [
      | inl passes ↦
          let own : f bid ≡ bid.amount.value = ap (λ b. cond b bid.amount.value 0) passes in
          lt-ltb 0 (sum_by f (bid ∷ live)) (omega (arith, parts, own, here))
          ∙ sym (ap (λ b. b || list_any test live) passes)
      | inr fails ↦
          let none : f bid ≡ 0 = ap (λ b. cond b bid.amount.value 0) fails in
          let same : sum_by f (bid ∷ live) ≡ sum_by f live = omega (arith, parts, none) in
          ap (nat_lt 0) same ∙ (par-listed test live (All-tail P bid live some)
          ∙ sym (ap (λ b. b || list_any test live) fails))
    ]

-- so a number has par in the book just where its bidder has a live bid
pub has_bid-booked : (bidding : Bidding) (lines : List BookLine) (number : ℕ) (e : Enrolment)
    → IsSound bidding
    → AreBooked bidding lines
    → number < length bidding.enrolled
    → bidder_at bidding.enrolled number e ≡ e.bidder
    → nat_lt 0 (books.competitive_of number lines + books.noncompetitive_of number lines) ≡ has_bid bidding e
has_bid-booked bidding lines number e sound booked within is =
    let some : All (λ (bid : Bid). 0 < bid.amount.value) bidding.live = λ k d below. (sound.bids k d below).some in
    ap (nat_lt 0)
    (ap₂ (λ a b. a + b)
    (sum_by-booked (λ (line : BookLine). cond ((line.bidder == number) && is_some line.rate)
    line.amount.value 0) bidding
    lines booked)
    (sum_by-booked (λ (line : BookLine). cond ((line.bidder == number) && is_none line.rate)
    line.amount.value 0) bidding
    lines booked)
    ∙ kinds-joined bidding.enrolled bidding.live number e sound.distinct within)
    ∙ (par-listed (λ (bid : Bid). is_same bid.bidder (bidder_at bidding.enrolled number e)) bidding.live some
    ∙ ap (λ name. list_any (λ (bid : Bid). is_same bid.bidder name) bidding.live) is)

-- the cut's stop and percentage are the bidding's
pub stop-is : (bidding : Bidding) (lines : List BookLine) (recognised : List RateLine) (cut : Cut)
    → IsCutIn bidding lines recognised (outcome.Cut cut)
    → (cut.stop.steps ≡ stop_of bidding) × (cut.percent.hundredths ≡ percent_of bidding)
stop-is bidding lines recognised cut is =
    IsCut-figures bidding recognised cut.stop.steps cut.percent.hundredths
    (HasPar-bidding bidding recognised is.sound.distinct is.recognition) (omega (arith, is.sound.sought)) is.is.1.is

-- where there is a cut, something is recognised
pub some-recognised : (bidding : Bidding) (lines : List BookLine) (recognised : List RateLine) (cut : Cut)
    → IsCutIn bidding lines recognised (outcome.Cut cut)
    → (par_in_all bidding == 0) ≡ false
some-recognised bidding lines recognised cut is =
    false_from_ne_true _ (λ none.
    let empty : recognised ≡ [] =
    (recognised-none_is bidding recognised is.sound.distinct is.recognition).0 (eqb-true (par_in_all bidding) 0 none) in
    let nothing : length recognised ≡ 0 = ap length empty in
    absurd (omega (arith, nothing, is.is.0)))

-- the awards of a number's lines and its noncompetitive lines are its bidder's award
pub awarded-cut : (bidding : Bidding) (lines : List BookLine) (recognised : List RateLine) (cut : Cut) (number sum : ℕ)
    (d : Enrolment)
    → IsCutIn bidding lines recognised (outcome.Cut cut)
    → AwardsComeTo cut recognised number sum
    → number < length bidding.enrolled
    → sum + books.noncompetitive_of number lines ≡ awarded bidding (bidder_at bidding.enrolled number d)
unfolding awarded
awarded-cut bidding lines recognised cut number sum d is come within =
    let stop = stop-is bidding lines recognised cut is in
    let awards_are : AreAwards (stop_of bidding) (percent_of bidding) recognised come.awards =
    subst (λ (p : ℕ). AreAwards (stop_of bidding) p recognised come.awards) stop.1
    (subst (λ (s : ℕ). AreAwards s cut.percent.hundredths recognised come.awards) stop.0 come.are) in
    rw (some-recognised bidding lines recognised cut is)
    (ap₂ (λ a b. a + b)
    (come.sum_is
    ∙ awarded_to-bidding bidding recognised come.awards number d is.sound.distinct is.recognition awards_are within)
    (noncompetitive_of-booked bidding lines number d is.sound is.booked within))

-- nothing is recognised in all where there are no awards
pub none-recognised : (bidding : Bidding) (lines : List BookLine) (recognised : List RateLine)
    → IsCutIn bidding lines recognised outcome.NoAwards
    → par_in_all bidding ≡ 0
none-recognised bidding lines recognised is =
    (recognised-none_is bidding recognised is.sound.distinct is.recognition).1 is.is

-- nobody is awarded anything then
pub awarded-nothing : (bidding : Bidding) (bidder : List ℕ) → par_in_all bidding ≡ 0 → awarded bidding bidder ≡ 0
unfolding awarded
awarded-nothing bidding bidder none = rw (eq-eqb (par_in_all bidding) 0 none) refl

-- so nobody is where there are no awards
pub awarded-none : (bidding : Bidding) (lines : List BookLine) (recognised : List RateLine) (bidder : List ℕ)
    → IsCutIn bidding lines recognised outcome.NoAwards
    → awarded bidding bidder ≡ 0
awarded-none bidding lines recognised bidder is =
    awarded-nothing bidding bidder (none-recognised bidding lines recognised is)

-- nothing is wanted then
wanted-none : (bidding : Bidding) → par_in_all bidding ≡ 0 → wanted_in bidding ≡ 0
unfolding wanted_in
wanted-none bidding none = omega (arith, none)

-- and the stop is the least rate
stop-none : (bidding : Bidding) → par_in_all bidding ≡ 0 → stop_of bidding ≡ 0
unfolding stop_of
stop-none bidding none =
    first_from-is (λ steps. nat_le (wanted_in bidding) (par_under bidding (suc steps))) 0 rates 0 (omega arith)
    (omega arith)
    (le-leb (wanted_in bidding) (par_under bidding 1) (omega (arith, wanted-none bidding none)))
    (λ earlier low before. absurd (omega (arith, before)))

-- nothing is paid for nothing
pub paid-none : (bidding : Bidding) (lines : List BookLine) (recognised : List RateLine) (amount : ℕ)
    → IsCutIn bidding lines recognised outcome.NoAwards
    → amount ≡ 0
    → IsPaid bidding amount 0
paid-none bidding lines recognised amount is nothing =
    let stop = stop-none bidding (none-recognised bidding lines recognised is) in
    record {
      millionths = 100000000;
      price = subst (λ (n : ℕ). IsPrice n (days_of bidding.announcement) 100000000) (sym stop)
          (at_par (days_of bidding.announcement));
      payment = subst (λ (n : ℕ). IsPayment n 100000000 0) (sym nothing)
          (record { lower = omega arith; upper = omega arith });
    }
  where
    at_par : (days : ℕ) → IsPrice 0 days 100000000
    at_par days = record { below_half_more = omega arith; above_half_less = omega arith }

-- an award is paid for at the price of the cut
pub paid-cut : (bidding : Bidding) (lines : List BookLine) (recognised : List RateLine) (cut : Cut) (amount cents : ℕ)
    → IsCutIn bidding lines recognised (outcome.Cut cut)
    → IsPayment amount cut.price.millionths cents
    → IsPaid bidding amount cents
paid-cut bidding lines recognised cut amount cents is paid = record {
  millionths = cut.price.millionths;
  price = subst (λ (n : ℕ). IsPrice n (days_of bidding.announcement) cut.price.millionths)
      (stop-is bidding lines recognised cut is).0 is.is.1.price;
  payment = paid;
}

-- the par of an add-on, where it is awarded
pub add_on-awarded : (bidding : Bidding) (x : AddOn)
    → par_added (λ name. true) (if_awarded bidding (Some x))
    ≡ (if par_in_all bidding == 0 then 0 else x.amount.value)
add_on-awarded bidding x = by_test (par_in_all bidding == 0)
  where
    -- by whether anything is
    by_test : (none : Bool)
        → par_added (λ name. true) (if none then None else Some x) ≡ (if none then 0 else x.amount.value)
    by_test true = refl
    by_test false = refl

-- nothing of it is where nothing is
pub add_on-nothing : (bidding : Bidding) (amount : ℕ)
    → par_in_all bidding ≡ 0
    → (if par_in_all bidding == 0 then 0 else amount) ≡ 0
add_on-nothing bidding amount none = rw (eq-eqb (par_in_all bidding) 0 none) refl

-- what is recognised is in whole hundreds
pub hundreds-recognised : (bidding : Bidding) (lines : List BookLine) (recognised : List RateLine) (answer : Outcome)
    → IsCutIn bidding lines recognised answer
    → All IsInHundreds recognised
hundreds-recognised bidding lines recognised answer is =
    IsRecognitionOf-hundreds (lines_of bidding) (positions_of bidding) bidding.announcement.offering.value recognised
    (hundreds-lines_of bidding is.sound) is.recognition

-- with a bidder's noncompetitive lines it is within the par of all lines
pub recognised-limited : (bidding : Bidding) (lines : List BookLine) (recognised : List RateLine) (answer : Outcome)
    (number : ℕ)
    → IsCutIn bidding lines recognised answer
    → books.noncompetitive_of number lines + total_of recognised ≤ most_bid
recognised-limited bidding lines recognised answer number is =
    omega (
      arith,
      is.within,
      sum_by-lines_of amount_of bidding lines is.booked,
      par-shared number lines,
      is.limited,
    )

-- a bidder's awards are within what is recognised
pub awards-within : (cut : Cut) (recognised : List RateLine) (number sum : ℕ)
    → All IsInHundreds recognised
    → AwardsComeTo cut recognised number sum
    → sum ≤ total_of recognised
awards-within cut recognised number sum hundreds come =
    omega (
      arith,
      come.sum_is,
      awarded_to-le number come.awards,
      total-within recognised come.awards
          (AreAwards-within cut.stop.steps cut.percent.hundredths recognised come.awards cut.percent.in_range hundreds
          come.are),
    )

-- one line more
pub award_lines-push : (bidding : Bidding) (bidders : List Enrolment) (lines : List AwardLine) (e : Enrolment)
    (line : AwardLine)
    → AreAwardLines bidding bidders lines
    → IsAwardLine bidding e.bidder line
    → AreAwardLines bidding (bidders ++ e ∷ []) (lines ++ line ∷ [])
award_lines-push bidding [] [] e line are is = (is, tt)
award_lines-push bidding (b ∷ bidders) (l ∷ lines) e line are is =
    (are.0, award_lines-push bidding bidders lines e line are.1 is)
award_lines-push bidding [] (l ∷ lines) e line are is = absurd are
award_lines-push bidding (b ∷ bidders) [] e line are is = absurd are

-- of one bidder
among-one : (bidding : Bidding) (caller : List ℕ) (e : Enrolment)
    → bidders_among bidding caller (e ∷ []) ≡ cond (is_same e.submitter caller && has_bid bidding e) (e ∷ []) []
among-one bidding caller e =
    elim (cases_Bool (is_same e.submitter caller)) [
      | inl own ↦ rw own refl
      | inr other ↦ rw other refl
    ]

-- one bidder more
pub among-push : (bidding : Bidding) (caller : List ℕ) (enrolled : List Enrolment) (e : Enrolment)
    → bidders_among bidding caller (enrolled ++ e ∷ [])
    ≡ bidders_among bidding caller enrolled ++ cond (is_same e.submitter caller && has_bid bidding e) (e ∷ []) []
among-push bidding caller enrolled e =
    let own : Enrolment → Bool = λ (x : Enrolment). is_same x.submitter caller in
    ap (filter (has_bid bidding)) (filter-append own enrolled (e ∷ []))
    ∙ filter-append (has_bid bidding) (filter own enrolled) (filter own (e ∷ []))
    ∙ ap (λ rest. bidders_among bidding caller enrolled ++ rest) (among-one bidding caller e)

-- the lines are asked for up to this bidder, of which it is found whether it is asked for
pub record IsAsked (bidding : Bidding) (lines : List BookLine) (caller : List ℕ) (enrolled : List Enrolment)
    (number : ℕ) (e : Enrolment) (asked : Bool) : Type 0 where
  pub sound : IsSound bidding
  pub booked : AreBooked bidding lines
  pub enrolled_are : enrolled ≡ bidding.enrolled
  pub within : number < length enrolled
  pub there : get_or enrolled number e ≡ e
  pub asked_is : asked
      ≡ (is_same e.submitter caller
      && nat_lt 0 (books.competitive_of number lines + books.noncompetitive_of number lines))

-- then it is the bidder of its number
pub IsAsked-within : (bidding : Bidding) (lines : List BookLine) (caller : List ℕ) (enrolled : List Enrolment)
    (number : ℕ) (e : Enrolment) (asked : Bool)
    → IsAsked bidding lines caller enrolled number e asked
    → number < length bidding.enrolled
IsAsked-within bidding lines caller enrolled number e asked is =
    subst (λ (es : List Enrolment). number < length es) is.enrolled_are is.within

-- by its name
pub IsAsked-at : (bidding : Bidding) (lines : List BookLine) (caller : List ℕ) (enrolled : List Enrolment)
    (number : ℕ) (e : Enrolment) (asked : Bool)
    → IsAsked bidding lines caller enrolled number e asked
    → bidder_at bidding.enrolled number e ≡ e.bidder
IsAsked-at bidding lines caller enrolled number e asked is =
    subst (λ (es : List Enrolment). bidder_at es number e ≡ e.bidder) is.enrolled_are
    (ap (λ (x : Enrolment). x.bidder) is.there)

-- so many bidders are asked for with it
pub among-next : (bidding : Bidding) (lines : List BookLine) (caller : List ℕ) (enrolled : List Enrolment)
    (number : ℕ) (e : Enrolment) (asked : Bool)
    → IsAsked bidding lines caller enrolled number e asked
    → bidders_among bidding caller (take (number + 1) enrolled)
    ≡ bidders_among bidding caller (take number enrolled) ++ cond asked (e ∷ []) []
among-next bidding lines caller enrolled number e asked is =
    let step : take (number + 1) enrolled ≡ take number enrolled ++ e ∷ [] =
    take_more enrolled number e is.within ∙ ap (λ x. take number enrolled ++ x ∷ []) is.there in
    let inside = IsAsked-within bidding lines caller enrolled number e asked is in
    let at = IsAsked-at bidding lines caller enrolled number e asked is in
    let has = has_bid-booked bidding lines number e is.sound is.booked inside at in
    ap (bidders_among bidding caller) step
    ∙ among-push bidding caller (take number enrolled) e
    ∙ ap (λ b. bidders_among bidding caller (take number enrolled) ++ cond b (e ∷ []) [])
    (sym (is.asked_is ∙ ap (λ b. is_same e.submitter caller && b) has))

-- the line of a bidder that is asked for is one more
pub lines-more : (bidding : Bidding) (lines : List BookLine) (caller : List ℕ) (enrolled : List Enrolment)
    (number : ℕ) (e : Enrolment) (so_far : List AwardLine) (line : AwardLine)
    → IsAsked bidding lines caller enrolled number e true
    → AreAwardLines bidding (bidders_among bidding caller (take number enrolled)) so_far
    → IsAwardLine bidding e.bidder line
    → AreAwardLines bidding (bidders_among bidding caller (take (number + 1) enrolled)) (so_far ++ line ∷ [])
lines-more bidding lines caller enrolled number e so_far line is are more =
    subst (λ (es : List Enrolment). AreAwardLines bidding es (so_far ++ line ∷ []))
    (sym (among-next bidding lines caller enrolled number e true is))
    (award_lines-push bidding (bidders_among bidding caller (take number enrolled)) so_far e line are more)

-- where it isn't asked for they stay
pub lines-same : (bidding : Bidding) (lines : List BookLine) (caller : List ℕ) (enrolled : List Enrolment)
    (number : ℕ) (e : Enrolment) (so_far : List AwardLine)
    → IsAsked bidding lines caller enrolled number e false
    → AreAwardLines bidding (bidders_among bidding caller (take number enrolled)) so_far
    → AreAwardLines bidding (bidders_among bidding caller (take (number + 1) enrolled)) so_far
lines-same bidding lines caller enrolled number e so_far is are =
    subst (λ (es : List Enrolment). AreAwardLines bidding es so_far)
    (sym (among-next bidding lines caller enrolled number e false is
    ∙ append-nil (bidders_among bidding caller (take number enrolled)))) are

-- the awards of no lines
pub AwardsComeTo-none : (cut : Cut) (bidder : ℕ) → AwardsComeTo cut [] bidder 0
AwardsComeTo-none cut bidder = record { awards = []; are = tt; sum_is = refl }

-- one line more
pub AwardsComeTo-push : (cut : Cut) (lines : List RateLine) (line : RateLine) (award : Dollars) (bidder sum part : ℕ)
    → AwardsComeTo cut lines bidder sum
    → IsAward cut.stop.steps cut.percent.hundredths line.rate.steps line.amount.value award.value
    → part ≡ cond (line.bidder == bidder) award.value 0
    → AwardsComeTo cut (lines ++ line ∷ []) bidder (sum + part)
AwardsComeTo-push cut lines line award bidder sum part come is part_is =
    let one : RateLine = record { rate = line.rate; bidder = line.bidder; amount = award } in
    record {
      awards = come.awards ++ one ∷ [];
      are = AreAwards_push cut.stop.steps cut.percent.hundredths lines come.awards line one come.are refl refl is;
      sum_is = omega (arith, come.sum_is, awarded_to_push bidder come.awards one, part_is);
    }

-- a bidder's whole award
pub awarded-whole : (bidding : Bidding) (lines : List BookLine) (recognised : List RateLine) (cut : Cut)
    (number award noncompetitive : ℕ) (d : Enrolment)
    → IsCutIn bidding lines recognised (outcome.Cut cut)
    → ((competitive : ℕ) × AwardsComeTo cut recognised number competitive × (award ≡ competitive + noncompetitive))
    → noncompetitive ≡ books.noncompetitive_of number lines
    → number < length bidding.enrolled
    → award ≡ awarded bidding (bidder_at bidding.enrolled number d)
awarded-whole bidding lines recognised cut number award noncompetitive d is come lines_are within =
    come.2 ∙ ap (λ n. come.0 + n) lines_are
    ∙ awarded-cut bidding lines recognised cut number come.0 d is come.1 within
