-- What is offered and awarded in an auction of a legal history fits a row of the register.
use Rattle.std.proofs.Common.{◌≡◌, ◌⊎◌, ℕ, ◌+◌, ◌*◌, ◌^◌, ◌%◌, ◌≤◌, ◌==◌, ◌&&◌, ◌||◌, Bool, true, false, not, cond}
use Rattle.std.proofs.Common.{is_none}
use Rattle.std.proofs.Common.{if◌then◌else◌, nat_le, inl, inr, Option, Some, None, List, [], ◌∷◌, ◌++◌, length, sum_by}
use Rattle.std.proofs.Common.{refl, ap, subst, ◌∙◌, arith, append-nil}
use Rattle.std.specs.List.{AllByRecursion, filter, find, list_any}
use Rattle.std.proofs.lemmas.Bool.{cases_Bool, and_parts, leb-true}
use Rattle.std.proofs.lemmas.List.Folds.{list_any-append}
use Rattle.std.proofs.lemmas.List.Sums.{sum_by-append, sum_by-cons}
use Rattle.tb_units.specs.Multiples.{is_multiple}
use Rattle.tb_units.specs.declared.amount.Dollars.{Dollars}
use Rattle.tb_units.specs.declared.moment.Moment.{Moment}
use Rattle.tb_units.specs.declared.rate.Rate.{Rate}
use Rattle.tb_units.proofs.SumLemmas.{cond-le, sum_by-filter, sum_by_agree}
use Rattle.tb_terms.specs.Announcements.{has_amounts, has_closings, has_dates, is_within, most_offering, offering_unit}
use Rattle.tb_terms.specs.Cusips.{is_cusip}
use Rattle.tb_terms.specs.declared.announcement.Announcement.{Announcement}
use Rattle.tb_terms.specs.declared.checking.TermsFault.TheVariants as fault
use Rattle.tb_award.proofs.AwardLemmas.{total-within}
use Rattle.tb_message.specs.declared.message.Entry.{Entry}
use Rattle.tb_message.specs.declared.message.Message.{Message}
use Rattle.tb_message.specs.declared.message.Message.TheVariants as message
use Rattle.tb_message.specs.declared.query.Query.TheVariants as query
use Rattle.tb_message.specs.declared.verdict.Verdict.TheVariants as verdict
use Rattle.tb_history.specs.declared.accounts.AddOn.{AddOn}
use Rattle.tb_history.specs.declared.bids.Bid.{Bid}
use Rattle.tb_history.specs.declared.bids.Cancel.{Cancel}
use Rattle.tb_history.specs.declared.reading.Reading.TheVariants as reading
use Rattle.tb_history.specs.declared.readings.Figures.{Figures}
use Rattle.tb_history.specs.declared.readings.Results.{Results}
use Rattle.tb_history.specs.declared.roster.Enrolment.{Enrolment}
use Rattle.tb_history.specs.Awarded.{Bidding, par_under, rates, recognised_under}
use Rattle.tb_history.specs.Entries.{bid_by, cancelled_by, is_same, operator}
use Rattle.tb_history.specs.Holdings.{bidding_in, par_added}
use Rattle.tb_history.specs.Legal.{IsLegal}
use Rattle.tb_history.specs.LiveBids.{bids, bids_of, cancels, is_live, is_of, live_bids_in, noncompetitive_in, par_of}
use Rattle.tb_history.specs.LiveBids.{standing_of}
use Rattle.tb_history.specs.Readings.{AreFigures, IsReading}
use Rattle.tb_history.specs.Roster.{add_on_of, add_ons, announcement_of, announcements, enrolment_of, enrolments}
use Rattle.tb_history.specs.Roster.{is_enrolled, is_under}
use Rattle.tb_history.specs.SoundBids.{IsSoundBid}
use Rattle.tb_history.specs.Verdict.{verdict_on}
use Rattle.tb_history.proofs.AddOnLemmas.{found-known}
use Rattle.tb_history.proofs.CloseLemmas.{IsLegal-close, IsLegal-distinct}
use Rattle.tb_history.proofs.ClosedLemmas.{IsInOrder, IsLegal-in_order, found-in, offering_of}
use Rattle.tb_history.proofs.CutFigureLemmas.{HasPar-bidding}
use Rattle.tb_history.proofs.EachLemmas.{IsLegal-each, bids-grow}
use Rattle.tb_history.proofs.GrowthLemmas.{bids-snoc, cancels-snoc, is_enrolled-snoc}
use Rattle.tb_history.proofs.LegalLemmas.{by_entries}
use Rattle.tb_history.proofs.LengthLemmas.{IsLegal-enrolments, sum_by_plus}
use Rattle.tb_history.proofs.SameLemmas.{is_same-equal, is_same-sym}
use Rattle.tb_history.proofs.SoundLemmas.{accepted-sound}
use Rattle.tb_register.specs.Making.{FitsRow, awarded}

-- each part is at most so much
sum_most : {X : Type 0} (f : X → ℕ) (most : ℕ) (xs : List X) → ((x : X) → f x ≤ most) → sum_by f xs ≤ most * length xs
sum_most f most [] few = omega arith
sum_most f most (x ∷ xs) few = omega (arith, sum_by-cons f x xs, few x, sum_most f most xs few)

-- no part is more than another sum's
sum_less : {X : Type 0} (f g : X → ℕ) (xs : List X) → ((x : X) → f x ≤ g x) → sum_by f xs ≤ sum_by g xs
sum_less f g [] less = omega arith
sum_less f g (x ∷ xs) less = omega (arith, sum_by-cons f x xs, sum_by-cons g x xs, less x, sum_less f g xs less)

-- an announcement without a fault has its amounts in order
amounts-hold : (a b c d : Bool)
    → (if a then (if b then (if c then (if d then None else Some fault.BadClosing) else Some fault.BadAmounts)
    else Some fault.BadDates) else Some fault.BadCusip) ≡ None
    → c ≡ true
amounts-hold true true true d none = refl
amounts-hold true true false d none = absurd cc
amounts-hold true false c d none = absurd cc
amounts-hold false b c d none = absurd cc

-- the ceiling of noncompetitive bids is within the offering
ceiling_of : (a : Announcement) → IsInOrder a → a.nc_ceiling.value ≤ a.offering.value
ceiling_of a in_order =
    let amounts = amounts-hold (is_cusip a.cusip.bytes) (has_dates a) (has_amounts a) (has_closings a) in_order in
    let offered = is_multiple offering_unit most_offering a.offering.value in
    let one = is_within a a.minimum.value in
    let two = is_within a a.nc_ceiling.value in
    let three = is_within a a.competitive_floor.value in
    let first = and_parts (offered && one && two && three) (is_within a a.nlp_threshold.value) amounts in
    let second = and_parts (offered && one && two) three first.0 in
    let third = and_parts (offered && one) two second.0 in
    let size = a.nc_ceiling.value in
    leb-true size a.offering.value
    (and_parts ((size % 100 == 0) && nat_le 100 size) (nat_le size a.offering.value) third.1).1

-- what a bid counts of its bidder's live noncompetitive bids in an auction
abbrev live_par : List Cancel → Bid → ℕ
live_par cancelled bid = cond (is_live cancelled bid) (cond (is_none bid.rate) bid.amount.value 0) 0

abbrev weight : List Cancel → List ℕ → List ℕ → Bid → ℕ
weight cancelled auction bidder bid = cond (is_of auction bidder bid) (live_par cancelled bid) 0

-- these come to what stands of the bidder
weights-standing : (all : List Bid) (cancelled : List Cancel) (auction bidder : List ℕ)
    → par_of (noncompetitive_in (filter (is_live cancelled) (bids_of all auction bidder)))
    ≡ sum_by (weight cancelled auction bidder) all
weights-standing all cancelled auction bidder =
    sum_by-filter (λ (b : Bid). b.amount.value) (λ (b : Bid). is_none b.rate)
    (filter (is_live cancelled) (bids_of all auction bidder))
    ∙ sum_by-filter (λ (b : Bid). cond (is_none b.rate) b.amount.value 0) (is_live cancelled)
    (bids_of all auction bidder)
    ∙ sum_by-filter (live_par cancelled) (is_of auction bidder) all

abbrev cancels_bid : Bid → Cancel → Bool
cancels_bid bid c =
    is_same c.submitter bid.submitter && is_same c.auction bid.auction && (c.bid == bid.number)

-- a further cancel takes a bid out, and puts none in
live-fewer : (cancelled more : List Cancel) (bid : Bid) → live_par (cancelled ++ more) bid ≤ live_par cancelled bid
live-fewer cancelled more bid =
    rw (list_any-append (cancels_bid bid) cancelled more)
    (by_tests (list_any (cancels_bid bid) cancelled) (list_any (cancels_bid bid) more))
  where
    by_tests : (one other : Bool)
        → cond (not (one || other)) (cond (is_none bid.rate) bid.amount.value 0) 0
        ≤ cond (not one) (cond (is_none bid.rate) bid.amount.value 0) 0
    by_tests true other = omega arith
    by_tests false true = omega arith
    by_tests false false = omega arith

weight-fewer : (cancelled more : List Cancel) (auction bidder : List ℕ) (bid : Bid)
    → weight (cancelled ++ more) auction bidder bid ≤ weight cancelled auction bidder bid
weight-fewer cancelled more auction bidder bid = by_test (is_of auction bidder bid)
  where
    by_test : (b : Bool) → cond b (live_par (cancelled ++ more) bid) 0 ≤ cond b (live_par cancelled bid) 0
    by_test true = live-fewer cancelled more bid
    by_test false = omega arith

-- the live noncompetitive bids of each bidder in each auction are at most a ceiling
abbrev HasCeiling : List Entry → Type 0
HasCeiling history =
    (auction bidder : List ℕ) → sum_by (weight (cancels history) auction bidder) (bids history) ≤ 10 ^ 12

-- a bid that is accepted stays within it
bid-ceiling : (history : List Entry) (submitter : List ℕ) (number : ℕ) (moment : Moment)
    (auction bidder : List ℕ) (rate : Option Rate) (amount : Dollars)
    → IsLegal history
    → IsSoundBid history submitter moment auction bidder rate amount.value
    → sum_by (weight (cancels history) auction bidder) (bids history) + cond (is_none rate) amount.value 0 ≤ 10 ^ 12
    ⊎ (is_none rate ≡ false)
unfolding standing_of
bid-ceiling history submitter number moment auction bidder (Some rate) amount legal sound = inr refl
bid-ceiling history submitter number moment auction bidder None amount legal sound =
    let in_order : IsInOrder sound.terms =
    found-in IsInOrder (λ (a : Announcement). is_same a.auction auction) (announcements history) sound.terms
    (IsLegal-in_order history legal) sound.announced in
    inl (omega (
      arith,
      weights-standing (bids history) (cancels history) auction bidder,
      sound.fits.1,
      ceiling_of sound.terms in_order,
      offering_of sound.terms in_order,
    ))

-- and so does every accepted message
ceiling-push : (history : List Entry) (submitter : List ℕ) (number : ℕ) (moment : Moment) (sent : Message)
    → IsLegal history
    → HasCeiling history
    → verdict_on history submitter number moment sent ≡ verdict.Accepted number moment
    → (auction bidder : List ℕ)
    → sum_by (weight (cancels history ++ cancelled_by submitter sent) auction bidder)
    (bids history ++ bid_by submitter number sent) ≤ 10 ^ 12
ceiling-push history submitter number moment (message.Bid named whose rate amount) legal held accepted auction bidder =
    let bid : Bid = record {
      submitter = submitter;
      number = number;
      auction = named;
      bidder = whose;
      rate = rate;
      amount = amount;
    } in
    let sound : IsSoundBid history submitter moment named whose rate amount.value =
    accepted-sound history submitter number moment named whose rate amount accepted in
    rw (append-nil (cancels history), sum_by-append (weight (cancels history) auction bidder) (bids history) (bid ∷ []))
    (by_test bid (bid-ceiling history submitter number moment named whose rate amount legal sound)
    (is_same named auction) refl (is_same whose bidder) refl)
  where
    -- the bid is of another auction, of another bidder, or counts
    by_test : (bid : Bid)
        → (sum_by (weight (cancels history) bid.auction bid.bidder) (bids history)
        + cond (is_none bid.rate) bid.amount.value 0 ≤ 10 ^ 12 ⊎ (is_none bid.rate ≡ false))
        → (one : Bool)
        → is_same bid.auction auction ≡ one
        → (other : Bool)
        → is_same bid.bidder bidder ≡ other
        → sum_by (weight (cancels history) auction bidder) (bids history)
        + sum_by (weight (cancels history) auction bidder) (bid ∷ []) ≤ 10 ^ 12
    by_test bid most false is_one other is_other =
        let nothing : weight (cancels history) auction bidder bid ≡ 0 = rw is_one refl in
        omega (arith, held auction bidder, nothing, sum_by-cons (weight (cancels history) auction bidder) bid [])
    by_test bid most true is_one false is_other =
        let nothing : weight (cancels history) auction bidder bid ≡ 0 = rw (is_one, is_other) refl in
        omega (arith, held auction bidder, nothing, sum_by-cons (weight (cancels history) auction bidder) bid [])
    by_test bid (inr rated) true is_one true is_other =
        let nothing : weight (cancels history) auction bidder bid ≤ 0 =
        rw (is_one, is_other, rated) (cond-le (is_live (cancels history) bid) 0) in
        omega (arith, held auction bidder, nothing, sum_by-cons (weight (cancels history) auction bidder) bid [])
    by_test bid (inl most) true is_one true is_other =
        let here : sum_by (weight (cancels history) auction bidder) (bids history)
        + cond (is_none bid.rate) bid.amount.value 0 ≤ 10 ^ 12 =
        subst (λ (a : List ℕ). sum_by (weight (cancels history) a bidder) (bids history)
        + cond (is_none bid.rate) bid.amount.value 0 ≤ 10 ^ 12) (is_same-equal bid.auction auction is_one)
        (subst (λ (b : List ℕ). sum_by (weight (cancels history) bid.auction b) (bids history)
        + cond (is_none bid.rate) bid.amount.value 0 ≤ 10 ^ 12) (is_same-equal bid.bidder bidder is_other) most) in
        let few : weight (cancels history) auction bidder bid ≤ cond (is_none bid.rate) bid.amount.value 0 =
        rw (is_one, is_other) (cond-le (is_live (cancels history) bid) (cond (is_none bid.rate) bid.amount.value 0)) in
        omega (arith, here, few, sum_by-cons (weight (cancels history) auction bidder) bid [])
ceiling-push history submitter number moment (message.Cancel named bid) legal held accepted auction bidder =
    rw (append-nil (bids history))
    (omega (
      arith,
      held auction bidder,
      sum_less (weight (cancels history ++ cancelled_by submitter (message.Cancel named bid)) auction bidder)
          (weight (cancels history) auction bidder) (bids history)
          (weight-fewer (cancels history) (cancelled_by submitter (message.Cancel named bid)) auction bidder),
    ))
ceiling-push history submitter number moment other legal held accepted auction bidder =
    rw (append-nil (bids history), append-nil (cancels history)) (held auction bidder)

-- so they are in every legal history
IsLegal-ceiling : (history : List Entry) → IsLegal history → HasCeiling history
unfolding bids
IsLegal-ceiling =
    by_entries HasCeiling (λ auction bidder. nothing auction bidder)
    (λ history entry legal held follows auction bidder.
    rw (bids-snoc history entry, cancels-snoc history entry)
    (ceiling-push history entry.submitter entry.number entry.moment entry.message legal held follows.accepted auction
    bidder))
  where
    nothing : (auction bidder : List ℕ) → sum_by (weight (cancels []) auction bidder) (bids []) ≤ 10 ^ 12
    nothing auction bidder = omega arith

-- each bid's bidder is enrolled
abbrev IsEnrolled : List Entry → Bid → Type 0
IsEnrolled history bid = is_enrolled history bid.bidder bid.submitter ≡ true

bid-enrolled : (history : List Entry) (submitter : List ℕ) (number : ℕ) (moment : Moment) (sent : Message)
    → verdict_on history submitter number moment sent ≡ verdict.Accepted number moment
    → AllByRecursion (IsEnrolled history) (bid_by submitter number sent)
bid-enrolled history submitter number moment (message.Bid auction bidder rate amount) accepted =
    ((accepted-sound history submitter number moment auction bidder rate amount accepted).enrolled, tt)
bid-enrolled history submitter number moment other accepted = tt

IsLegal-enrolled : (history : List Entry) → IsLegal history → AllByRecursion (IsEnrolled history) (bids history)
IsLegal-enrolled =
    IsLegal-each IsEnrolled bids (λ (entry : Entry). bid_by entry.submitter entry.number entry.message) bids-grow
    (record {
      begins = λ history entry legal follows passed. bid-enrolled history entry.submitter entry.number entry.moment
          entry.message follows.accepted;
      stays = λ history entry bid is. is_enrolled-snoc history entry bid.bidder bid.submitter is;
    })

-- what a bid counts of an auction counts for one bidder that is enrolled
abbrev part : List Cancel → List ℕ → Bid → ℕ
part cancelled auction bid = cond (is_same bid.auction auction) (live_par cancelled bid) 0

part-claimed : (cancelled : List Cancel) (auction : List ℕ) (enrolled : List Enrolment) (bid : Bid) (e : Enrolment)
    → find (λ (x : Enrolment). is_same x.bidder bid.bidder) enrolled ≡ Some e
    → part cancelled auction bid ≤ sum_by (λ (x : Enrolment). weight cancelled auction x.bidder bid) enrolled
part-claimed cancelled auction [] bid e found = absurd cc
part-claimed cancelled auction (x ∷ enrolled) bid e found =
    let f : Enrolment → ℕ = λ (y : Enrolment). weight cancelled auction y.bidder bid in
    elim (cases_Bool (is_same x.bidder bid.bidder)) [
      | inl is ↦
          let same : is_same bid.bidder x.bidder ≡ true = is_same-sym x.bidder bid.bidder is in
          let here : part cancelled auction bid ≤ f x =
          by_test (is_same bid.auction auction) (is_same bid.bidder x.bidder) same in
          omega (arith, sum_by-cons f x enrolled, here)
      | inr isnt ↦
          omega (arith, sum_by-cons f x enrolled, part-claimed cancelled auction enrolled bid e (rw isnt at found))
    ]
  where
    by_test : (one other : Bool) → other ≡ true
        → cond one (live_par cancelled bid) 0 ≤ cond (one && other) (live_par cancelled bid) 0
    by_test true true same = omega arith
    by_test true false same = absurd (cc (same))
    by_test false other same = omega arith

-- a bidder that is enrolled is found
enrolled-found : (enrolled : List Enrolment) (bidder submitter : List ℕ) (found : Option Enrolment)
    → enrolment_of enrolled bidder ≡ found
    → is_under submitter found ≡ true
    → (e : Enrolment) × (enrolment_of enrolled bidder ≡ Some e)
enrolled-found enrolled bidder submitter None is under = absurd (cc (under))
enrolled-found enrolled bidder submitter (Some e) is under = (e, is)

-- so the bids of an auction count no more than those of all that are enrolled
parts-claimed : (history : List Entry) (cancelled : List Cancel) (auction : List ℕ) (all : List Bid)
    → AllByRecursion (IsEnrolled history) all
    → sum_by (part cancelled auction) all
    ≤ sum_by (λ (x : Enrolment). sum_by (weight cancelled auction x.bidder) all) (enrolments history)
parts-claimed history cancelled auction [] known = omega arith
parts-claimed history cancelled auction (bid ∷ all) known =
    let here : Enrolment → ℕ = λ (x : Enrolment). weight cancelled auction x.bidder bid in
    let rest : Enrolment → ℕ = λ (x : Enrolment). sum_by (weight cancelled auction x.bidder) all in
    let found = enrolled-found (enrolments history) bid.bidder bid.submitter
    (enrolment_of (enrolments history) bid.bidder) refl known.0 in
    omega (
      arith,
      sum_by-cons (part cancelled auction) bid all,
      part-claimed cancelled auction (enrolments history) bid found.0 found.1,
      parts-claimed history cancelled auction all known.1,
      sum_by_plus here rest (enrolments history),
      sum_by_agree (λ (x : Enrolment). sum_by (weight cancelled auction x.bidder) (bid ∷ all))
          (λ (x : Enrolment). here x + rest x) (enrolments history)
          (λ x. sum_by-cons (weight cancelled auction x.bidder) bid all),
    )

-- the noncompetitive bids of an auction come to a ceiling for each bidder at most
noncompetitive-most : (history : List Entry) (a : Announcement)
    → IsLegal history
    → par_of (noncompetitive_in (bidding_in history a).live) ≤ 10 ^ 12 * 16384
noncompetitive-most history a legal =
    let all : List Bid = bids history in
    let cancelled : List Cancel = cancels history in
    let inside : List Bid = filter (λ (b : Bid). is_same b.auction a.auction) all in
    let is : par_of (noncompetitive_in (live_bids_in all cancelled a.auction)) ≡ sum_by (part cancelled a.auction) all =
    sum_by-filter (λ (b : Bid). b.amount.value) (λ (b : Bid). is_none b.rate) (filter (is_live cancelled) inside)
    ∙ sum_by-filter (λ (b : Bid). cond (is_none b.rate) b.amount.value 0) (is_live cancelled) inside
    ∙ sum_by-filter (live_par cancelled) (λ (b : Bid). is_same b.auction a.auction) all in
    let each = sum_most (λ (x : Enrolment). sum_by (weight cancelled a.auction x.bidder) all) (10 ^ 12)
    (enrolments history) (λ x. IsLegal-ceiling history legal a.auction x.bidder) in
    omega (
      arith,
      is,
      parts-claimed history cancelled a.auction all (IsLegal-enrolled history legal),
      each,
      IsLegal-enrolments history legal,
    )

-- what is recognised of a bidder is at most 35 percent of the offering
recognised-most : (bidding : Bidding) (bidder : List ℕ) (steps : ℕ)
    → bidding.announcement.offering.value ≤ 10 ^ 12
    → recognised_under bidding bidder steps ≤ 350000000000
unfolding recognised_under
recognised-most bidding bidder steps offered = omega (arith, offered)

-- and of all bidders that for each
par-most : (bidding : Bidding) (steps : ℕ)
    → bidding.announcement.offering.value ≤ 10 ^ 12
    → length bidding.enrolled ≤ 16384
    → par_under bidding steps ≤ 350000000000 * 16384
unfolding par_under
par-most bidding steps offered few =
    let each = sum_most (λ (e : Enrolment). recognised_under bidding e.bidder steps) 350000000000 bidding.enrolled
    (λ e. recognised-most bidding e.bidder steps offered) in
    omega (arith, each, few)

-- no add-on is above its range
add_on-most : (history : List Entry) (auction : List ℕ)
    → IsLegal history
    → par_added (λ name. true) (add_on_of (add_ons history) auction) ≤ 10 ^ 12
add_on-most history auction legal = by_found (add_on_of (add_ons history) auction) refl
  where
    by_found : (found : Option AddOn) → add_on_of (add_ons history) auction ≡ found
        → par_added (λ name. true) found ≤ 10 ^ 12
    by_found None is = omega arith
    by_found (Some x) is = (found-known history auction x legal is).amount

-- all that is awarded comes to no more than that
awarded-most : (history : List Entry) (auction : List ℕ) (a : Announcement) (results : Results) (found : Option Figures)
    → IsLegal history
    → announcement_of (announcements history) auction ≡ Some a
    → a.offering.value ≤ 10 ^ 12
    → results.noncompetitive.value ≡ par_of (noncompetitive_in (bidding_in history a).live)
    → results.addon.value ≡ par_added (λ name. true) (add_on_of (add_ons history) a.auction)
    → AreFigures (bidding_in history a) found
    → awarded results found ≤ 10 ^ 17
awarded-most history auction a results None legal announced offered noncompetitive addon figures = omega arith
awarded-most history auction a results (Some found) legal announced offered noncompetitive addon figures =
    let bidding : Bidding = bidding_in history a in
    let close = IsLegal-close history auction a figures.recognised figures.awards found.cut.stop.steps
    found.cut.percent.hundredths legal announced figures.recognition figures.cut.is figures.awards_are in
    let par = HasPar-bidding bidding figures.recognised (IsLegal-distinct history legal) figures.recognition in
    omega (
      arith,
      noncompetitive,
      noncompetitive-most history a legal,
      addon,
      add_on-most history a.auction legal,
      figures.competitive,
      total-within figures.recognised figures.awards close.2,
      par.total,
      par-most bidding rates offered (IsLegal-enrolments history legal),
    )

-- so the results of an auction fit a row
pub FitsRow-results : (history : List Entry) (auction : List ℕ) (results : Results)
    → IsLegal history
    → IsReading history operator (query.Results auction) (reading.Results results)
    → FitsRow results
FitsRow-results history auction results legal told =
    let a : Announcement = told.0 in
    let in_order : IsInOrder a =
    found-in IsInOrder (λ (x : Announcement). is_same x.auction auction) (announcements history) a
    (IsLegal-in_order history legal) told.1 in
    let offered : a.offering.value ≤ 10 ^ 12 = offering_of a in_order in
    let is : results.terms.offering.value ≡ a.offering.value =
    ap (λ (x : Announcement). x.offering.value) told.2.terms in
    record {
      offering = omega (arith, is, offered);
      total = awarded-most history auction a results results.figures legal told.1 offered told.2.noncompetitive
          told.2.addon told.2.figures;
    }
