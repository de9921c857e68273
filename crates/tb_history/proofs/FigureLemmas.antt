-- The figures of a bidding are those of what is recognised of its lines.
use Rattle.std.proofs.Common.{◌≡◌, ℕ, zero, suc, pos, ◌+◌, ◌<◌, ◌≤◌, ◌==◌, ◌&&◌, Bool, true, false}
use Rattle.std.proofs.Common.{cond, Option, Some, None, inl, inr, List, [], ◌∷◌, length, get_or}
use Rattle.std.proofs.Common.{sum_by, take, All, refl, ap, ◌∙◌, subst, arith}
use Rattle.std.specs.List.{flat_map, position_or_len}
use Rattle.std.proofs.lemmas.Bool.{cases_Bool, both_ways, eqb-true, eq-eqb, false_from_ne_true}
use Rattle.std.proofs.lemmas.List.{length-map, get_or-map}
use Rattle.std.proofs.lemmas.List.Sums.{sum_by_more, position_or_len_is, passes_at_first}
use Rattle.std.proofs.Math.Seq.{take-length}
use Rattle.tb_units.specs.declared.rate.Rate.{Rate}
use Rattle.tb_units.specs.declared.lines.RateLine.{RateLine}
use Rattle.tb_units.proofs.SumLemmas.{sum_by-filter-cons}
use Rattle.tb_award.specs.Limits.{cap_of, limit_of}
use Rattle.tb_award.specs.Cuts.{par_of as rate_par_of, under}
use Rattle.tb_award.specs.Recognition.{bid_in, sum_under, let_through, limits_by}
use Rattle.tb_award.proofs.BidLemmas.{let_through-agree, bid_in-append}
use Rattle.tb_history.specs.declared.roster.Enrolment.{Enrolment}
use Rattle.tb_history.specs.declared.bids.Bid.{Bid}
use Rattle.tb_history.specs.Entries.{is_same}
use Rattle.tb_history.specs.LiveBids.{position_of}
use Rattle.tb_history.specs.Awarded.{Bidding, rates, is_at, bid_at, limit_for, recognised_under, par_under}
use Rattle.tb_history.specs.Readings.{AreDistinct, bidder_at, place_of, line_of, lines_of}
use Rattle.tb_history.specs.Readings.{positions_of, AreRecognisedOf}
use Rattle.tb_history.proofs.SameLemmas.{is_same-equal, is_same-refl}
use Rattle.tb_history.proofs.GridLemmas.{par_of-let_through}

-- a bidder is at its place
place_of-at : (enrolled : List Enrolment) (number : ℕ) (d : Enrolment)
    → AreDistinct enrolled
    → number < length enrolled
    → place_of enrolled (bidder_at enrolled number d) ≡ number
place_of-at enrolled number d distinct within =
    let name = bidder_at enrolled number d in
    let test : Enrolment → Bool = λ (enrolment : Enrolment). is_same enrolment.bidder name in
    position_or_len_is test enrolled number d (omega (arith, within))
    (λ k before. false_from_ne_true _ (λ same. distinct k number d before within
    (is_same-equal (bidder_at enrolled k d) name same)))
    (λ inside. is_same-refl name)

-- another bidder's place is that number just where it is that bidder
place_of-is : (enrolled : List Enrolment) (number : ℕ) (d : Enrolment) (other : List ℕ)
    → AreDistinct enrolled
    → number < length enrolled
    → (place_of enrolled other == number) ≡ is_same other (bidder_at enrolled number d)
place_of-is enrolled number d other distinct within =
    let name = bidder_at enrolled number d in
    let placed = place_of-at enrolled number d distinct within in
    let test : Enrolment → Bool = λ (enrolment : Enrolment). is_same enrolment.bidder other in
    elim (cases_Bool (is_same other name)) [
      | inl same ↦ rw same (eq-eqb (place_of enrolled other) number
          (ap (place_of enrolled) (is_same-equal other name same) ∙ placed))
      | inr apart ↦ rw apart (false_from_ne_true _ (λ equal.
          let there : place_of enrolled other ≡ number = eqb-true (place_of enrolled other) number equal in
          let inside : position_or_len test enrolled < length enrolled = omega (arith, there, within) in
          let passes : test (get_or enrolled (position_or_len test enrolled) d) ≡ true =
          passes_at_first test enrolled d inside in
          let here : is_same name other ≡ true =
          subst (λ (n : ℕ). is_same (bidder_at enrolled n d) other ≡ true) there passes in
          both_ways (is_same other name) apart (subst (λ (x : List ℕ). is_same x name ≡ true)
          (is_same-equal name other here) (is_same-refl name))))
    ]

-- a bid is one line of its bidder at its rate, or none
line_of-cell : (enrolled : List Enrolment) (bid : Bid) (rate : Option Rate) (number steps : ℕ) (own : Bool)
    → (place_of enrolled bid.bidder == number) ≡ own
    → bid_in (line_of enrolled bid rate) number steps ≡ cond (own && is_at steps rate) bid.amount.value 0
line_of-cell enrolled bid None number steps true is = refl
line_of-cell enrolled bid None number steps false is = refl
line_of-cell enrolled bid (Some rate) number steps own is = rw is (omega arith)

-- so the lines have what the live bids have
bid_in-lines : (enrolled : List Enrolment) (live : List Bid) (number steps : ℕ) (d : Enrolment)
    → AreDistinct enrolled
    → number < length enrolled
    → bid_in (flat_map (λ (bid : Bid). line_of enrolled bid bid.rate) live) number steps
    ≡ bid_at live (bidder_at enrolled number d) steps
bid_in-lines enrolled [] number steps d distinct within = refl
bid_in-lines enrolled (bid ∷ live) number steps d distinct within =
    let name = bidder_at enrolled number d in
    let says : Bid → List RateLine = λ (b : Bid). line_of enrolled b b.rate in
    let test : Bid → Bool = λ (b : Bid). is_same b.bidder name && is_at steps b.rate in
    let amount : Bid → ℕ = λ (b : Bid). b.amount.value in
    let rest = bid_in-lines enrolled live number steps d distinct within in
    let here = line_of-cell enrolled bid bid.rate number steps (is_same bid.bidder name)
    (place_of-is enrolled number d bid.bidder distinct within) in
    let split = bid_in-append (says bid) (flat_map says live) number steps in
    let other = sum_by-filter-cons amount test bid live in
    omega (arith, rest, here, split, other)

-- a sum over numbers is one over the elements at them
sum_under-take : {X : Type 0} (f : ℕ → ℕ) (g : X → ℕ) (xs : List X) (count : ℕ) (d : X)
    → ((k : ℕ) → k < length xs → f k ≡ g (get_or xs k d))
    → count ≤ length xs
    → sum_under f count ≡ sum_by g (take count xs)
sum_under-take f g xs zero d same within = refl
sum_under-take f g xs (suc count) d same within =
    let more = sum_by_more g xs count d (omega (arith, within)) in
    let next : suc count ≡ count + 1 = omega arith in
    rw next (omega (
      arith,
      sum_under-take f g xs count d same (omega (arith, within)),
      same count
          (omega (arith, within)),
      more,
    ))

-- over all of them
sum_under-elements : {X : Type 0} (f : ℕ → ℕ) (g : X → ℕ) (xs : List X)
    → ((k : ℕ) (d : X) → k < length xs → f k ≡ g (get_or xs k d))
    → sum_under f (length xs) ≡ sum_by g xs
sum_under-elements f g [] same = refl
sum_under-elements f g (x ∷ xs) same =
    sum_under-take f g (x ∷ xs) (length (x ∷ xs)) x (λ k within. same k x within) (omega arith)
    ∙ ap (sum_by g) (take-length (x ∷ xs))

-- what is let through of the lines of a number is what is recognised of its bidder
pub let_through-bidder : (bidding : Bidding) (number steps : ℕ) (d : Enrolment)
    → AreDistinct bidding.enrolled
    → number < length bidding.enrolled
    → let_through (bid_in (lines_of bidding) number) (cap_of bidding.announcement.offering.value)
    (limits_by bidding.announcement.offering.value (positions_of bidding) number) steps
    ≡ recognised_under bidding (bidder_at bidding.enrolled number d) steps
unfolding lines_of positions_of recognised_under
let_through-bidder bidding number steps d distinct within =
    let name = bidder_at bidding.enrolled number d in
    let cap = cap_of bidding.announcement.offering.value in
    let limit : limits_by bidding.announcement.offering.value (positions_of bidding) number ≡ limit_for bidding name =
    ap (limit_of bidding.announcement.offering.value)
    (get_or-map (λ (enrolment : Enrolment). position_of bidding.reported bidding.announcement.auction enrolment.bidder)
    bidding.enrolled number d (pos 0) within) in
    let_through-agree (bid_in (lines_of bidding) number) (bid_at bidding.live name) cap
    (limits_by bidding.announcement.offering.value (positions_of bidding) number) steps
    (λ n below. bid_in-lines bidding.enrolled bidding.live number n d distinct within)
    ∙ ap (λ l. let_through (bid_at bidding.live name) cap l steps) limit

-- each bidder has a position
pub positions-length : (bidding : Bidding) → length (positions_of bidding) ≡ length bidding.enrolled
unfolding positions_of
positions-length bidding =
    length-map bidding.enrolled
    (λ (enrolment : Enrolment). position_of bidding.reported bidding.announcement.auction enrolment.bidder)

-- rates are below 200,000 steps
pub rates-below : (lines : List RateLine) → All (λ line. line.rate.steps < rates) lines
rates-below lines = λ k d below. omega (arith, (get_or lines k d).rate.in_range)

-- what is recognised at the rates under one is the bidding's par under it
pub par_of-bidding : (bidding : Bidding) (recognised : List RateLine) (steps : ℕ)
    → AreDistinct bidding.enrolled
    → AreRecognisedOf bidding recognised
    → steps ≤ rates
    → rate_par_of recognised (under steps) ≡ par_under bidding steps
unfolding par_under
par_of-bidding bidding recognised steps distinct are within =
    let bids = bid_in (lines_of bidding) in
    let cap = cap_of bidding.announcement.offering.value in
    let limits = limits_by bidding.announcement.offering.value (positions_of bidding) in
    let f : ℕ → ℕ = λ number. let_through (bids number) cap (limits number) steps in
    par_of-let_through bids cap limits (length (positions_of bidding)) steps rates recognised are
    (rates-below recognised) within
    ∙ (ap (sum_under f) (positions-length bidding)
    ∙ sum_under-elements f (λ (enrolment : Enrolment). recognised_under bidding enrolment.bidder steps) bidding.enrolled
    (λ number d inside. let_through-bidder bidding number steps d distinct inside))
