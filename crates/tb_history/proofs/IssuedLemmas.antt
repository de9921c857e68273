-- How much of a bill is issued: awards of competitive bids are limited by the offering, and those of noncompetitive
-- bids are bid.
use Rattle.std.proofs.Common.{◌≡◌, ◌≢◌, ℕ, zero, suc, ◌+◌, ◌-◌, ◌*◌, ◌/◌, ◌%◌, ◌^◌, ◌<◌, ◌≤◌, ◌==◌, ◌&&◌}
use Rattle.std.proofs.Common.{min, Bool, true, false, cond, is_none, inl, inr, List, [], ◌∷◌, nat_lt, nat_le}
use Rattle.std.proofs.Common.{length, get_or, sum_by, All, refl, sym, ◌∙◌, subst, arith}
use Rattle.std.proofs.Math.Nat.{mul-le-mul_right}
use Rattle.std.specs.List.{AllPairs, AllByRecursion, filter}
use Rattle.std.proofs.lemmas.Bool.{cases_Bool, cases_order, both_ways, ltb-true, lt-ltb}
use Rattle.std.proofs.lemmas.Bool.{leb-true, le-leb, eqb-true, false_from_ne_true}
use Rattle.std.proofs.lemmas.Grind.{div_ceil_times}
use Rattle.std.proofs.lemmas.List.Sums.{sum_by-cons}
use Rattle.tb_units.proofs.ListLemmas.{AllPairs-head, AllPairs-tail}
use Rattle.tb_units.proofs.SumLemmas.{cond-le, sum_by-filter-cons, sum_by_agree}
use Rattle.tb_units.specs.Multiples.{most_par}
use Rattle.tb_terms.specs.declared.announcement.Announcement.{Announcement}
use Rattle.tb_terms.specs.declared.cusip.Cusip.{Cusip}
use Rattle.tb_award.specs.Limits.{cap_of}
use Rattle.tb_award.specs.Recognition.{sum_under}
use Rattle.tb_award.proofs.BidLemmas.{let_through-more}
use Rattle.tb_message.specs.declared.message.Entry.{Entry}
use Rattle.tb_history.specs.declared.roster.Enrolment.{Enrolment}
use Rattle.tb_history.specs.declared.bids.Bid.{Bid}
use Rattle.tb_history.specs.Entries.{is_same}
use Rattle.tb_history.specs.Roster.{enrolments, announcements, is_of_bill, is_settled}
use Rattle.tb_history.specs.LiveBids.{bids, cancels, is_live, live_bids_in, par_of, noncompetitive_in}
use Rattle.tb_history.specs.Values.{first_from, rounded_up}
use Rattle.tb_history.specs.Awarded.{Bidding, rates, bid_at, limit_for, recognised_under, recognised_for, par_under}
use Rattle.tb_history.specs.Awarded.{par_in_all, wanted_in, stop_of, par_at_stop, percent_of, prorated, award_at}
use Rattle.tb_history.specs.Awarded.{awards_under, noncompetitive_of, awarded}
use Rattle.tb_history.specs.Holdings.{bidding_in, award_in, awards_of, issued_in, issued}
use Rattle.tb_history.specs.Legal.{IsLegal}
use Rattle.tb_history.proofs.SameLemmas.{is_same-equal}
use Rattle.tb_history.proofs.LengthLemmas.{sum_by_plus, IsLegal-enrolments, IsLegal-announcements}
use Rattle.tb_history.proofs.ClosedLemmas.{IsInOrder, IsLegal-in_order, offering_of}
use Rattle.tb_history.proofs.CloseLemmas.{IsLegal-distinct}
use Rattle.tb_history.proofs.SettledLemmas.{IsLegal-names}
use Rattle.tb_history.proofs.ParLemmas.{IsLegal-bid_par}
use Rattle.tb_history.proofs.AddOnLemmas.{added-most}

-- where some number passes, the first one does
first_from-passes : (passes : ℕ → Bool) (from more number : ℕ)
    → from ≤ number
    → number < more + from
    → passes number ≡ true
    → passes (first_from passes from more) ≡ true
unfolding first_from
first_from-passes passes from zero number least most holds = absurd (omega (arith, least, most))
first_from-passes passes from (suc more) number least most holds =
    elim (cases_Bool (passes from)) [
      | inl here ↦ rw here here
      | inr fails ↦
          let apart : from ≢ number =
          λ same. both_ways (passes from) fails (subst (λ (n : ℕ). passes n ≡ true) (sym same) holds) in
          rw fails (first_from-passes passes (suc from) more number (omega (arith, least, apart))
          (omega (arith, most)) holds)
    ]

-- a quotient of at most some times the divisor is at most so much, rounded up
rounded_up-most : (number divisor most : ℕ) → number ≤ most * divisor → rounded_up number divisor ≤ most
unfolding rounded_up
rounded_up-most number zero most few =
    let none : number ≡ 0 = omega (arith, few) in
    rw none (omega arith)
rounded_up-most number (suc divisor) most few =
    let d : ℕ = suc divisor in
    let up : ℕ = number / d + min 1 (number % d) in
    let bounds = div_ceil_times number d (omega arith) in
    let not_more : ¬ (most < up) = λ more.
    let step : (most + 1) * d ≤ up * d = mul-le-mul_right d (omega (arith, more)) in
    let whole : (most + 1) * d ≡ most * d + d = omega arith in
    omega (arith, step, whole, bounds.1, few) in
    omega (arith, not_more)

-- so the percentage is at most 100
percent-most : (bidding : Bidding) → percent_of bidding ≤ 10000
unfolding percent_of stop_of wanted_in par_in_all
percent-most bidding =
    let wanted : ℕ = wanted_in bidding in
    let stop : ℕ = stop_of bidding in
    let passes : ℕ → Bool = λ steps. nat_le wanted (par_under bidding (suc steps)) in
    let last : passes 199999 ≡ true = le-leb wanted (par_under bidding 200000) (omega arith) in
    let found : passes stop ≡ true = first_from-passes passes 0 rates 199999 (omega arith) (omega arith) last in
    let reached : wanted ≤ par_under bidding (suc stop) = leb-true wanted (par_under bidding (suc stop)) found in
    rounded_up-most (10000 * (wanted - par_under bidding stop)) (par_at_stop bidding) 10000 (omega (arith, reached))

-- at most 100 percent of par is at most a hundred dollars more than it
prorated-most : (percent par : ℕ) → percent ≤ 10000 → prorated percent par ≤ par + 100
unfolding rounded_up
prorated-most percent par few =
    let bounds = div_ceil_times (percent * par) 1000000 (omega arith) in
    let whole : percent * par ≤ 10000 * par = mul-le-mul_right par few in
    omega (arith, bounds.1, whole)

-- what is awarded at a rate is at most what is recognised there, and a hundred dollars at the stop-out rate
award_at-most : (bidding : Bidding) (bidder : List ℕ) (steps : ℕ)
    → award_at bidding bidder steps ≤ recognised_for bidding bidder steps + cond (steps == stop_of bidding) 100 0
award_at-most bidding bidder steps =
    elim (cases_Bool (nat_lt steps (stop_of bidding))) [
      | inl below ↦ rw below (omega arith)
      | inr isnt ↦
          elim (cases_Bool (steps == stop_of bidding)) [
            | inl is ↦ rw (isnt, is)
                (prorated-most (percent_of bidding) (recognised_for bidding bidder steps) (percent-most bidding))
            | inr apart ↦ rw (isnt, apart) (omega arith)
          ]
    ]

-- a hundred dollars counts once
hundred_once : (stop steps : ℕ) → sum_under (λ n. cond (n == stop) 100 0) steps ≤ cond (nat_lt stop steps) 100 0
hundred_once stop zero = omega arith
hundred_once stop (suc steps) =
    let rest = hundred_once stop steps in
    elim (cases_order steps stop) [
      | inl same ↦
          let two : nat_lt stop steps ≡ false =
          false_from_ne_true _ (λ is. omega (arith, same, ltb-true stop steps is)) in
          let three : nat_lt stop (suc steps) ≡ true = lt-ltb stop (suc steps) (omega (arith, same)) in
          let so_far : sum_under (λ n. cond (n == stop) 100 0) steps ≤ 0 = rw two at rest in
          rw three (omega (arith, so_far, cond-le (steps == stop) 100))
      | inr (inl less) ↦
          let one : (steps == stop) ≡ false =
          false_from_ne_true _ (λ is. omega (arith, less, eqb-true steps stop is)) in
          let two : nat_lt stop steps ≡ false =
          false_from_ne_true _ (λ is. omega (arith, less, ltb-true stop steps is)) in
          let so_far : sum_under (λ n. cond (n == stop) 100 0) steps ≤ 0 = rw two at rest in
          rw one (omega (arith, so_far))
      | inr (inr more) ↦
          let one : (steps == stop) ≡ false =
          false_from_ne_true _ (λ is. omega (arith, more, eqb-true steps stop is)) in
          let two : nat_lt stop steps ≡ true = lt-ltb stop steps more in
          let three : nat_lt stop (suc steps) ≡ true = lt-ltb stop (suc steps) (omega (arith, more)) in
          let so_far : sum_under (λ n. cond (n == stop) 100 0) steps ≤ 100 = rw two at rest in
          rw (one, three) (omega (arith, so_far))
    ]

-- so what is awarded under a rate is at most a hundred dollars more than what is recognised there
awards_under-most : (bidding : Bidding) (bidder : List ℕ) (steps : ℕ)
    → awards_under bidding bidder steps
    ≤ recognised_under bidding bidder steps + sum_under (λ n. cond (n == stop_of bidding) 100 0) steps
unfolding awards_under recognised_under
awards_under-most bidding bidder zero = omega arith
awards_under-most bidding bidder (suc steps) =
    omega (
      arith,
      awards_under-most bidding bidder steps,
      award_at-most bidding bidder steps,
      let_through-more (bid_at bidding.live bidder) (cap_of bidding.announcement.offering.value)
          (limit_for bidding bidder) steps,
    )

-- what is recognised is at most 35 percent of the offering
recognised-most : (bidding : Bidding) (bidder : List ℕ) (steps : ℕ)
    → bidding.announcement.offering.value ≤ 10 ^ 12
    → recognised_under bidding bidder steps ≤ 350000000000
unfolding recognised_under
recognised-most bidding bidder steps offered = omega (arith, offered)

-- so what is awarded is little more
competitive-most : (bidding : Bidding) (bidder : List ℕ) (steps : ℕ)
    → bidding.announcement.offering.value ≤ 10 ^ 12
    → awards_under bidding bidder steps ≤ 350000000100
competitive-most bidding bidder steps offered =
    omega (
      arith,
      awards_under-most bidding bidder steps,
      recognised-most bidding bidder steps offered,
      hundred_once (stop_of bidding) steps,
      cond-le (nat_lt (stop_of bidding) steps) 100,
    )

-- and a bidder's award is no more than that and its noncompetitive bids
awarded-most : (bidding : Bidding) (bidder : List ℕ)
    → bidding.announcement.offering.value ≤ 10 ^ 12
    → awarded bidding bidder ≤ 350000000100 + noncompetitive_of bidding bidder
unfolding awarded
awarded-most bidding bidder offered =
    award_or_none (par_in_all bidding == 0) (awards_under bidding bidder rates) (noncompetitive_of bidding bidder)
    (competitive-most bidding bidder rates offered)
  where
    -- an award is nothing, or what is awarded of both kinds of bids
    award_or_none : (none : Bool) (competitive noncompetitive : ℕ)
        → competitive ≤ 350000000100
        → cond none 0 (competitive + noncompetitive) ≤ 350000000100 + noncompetitive
    award_or_none true competitive noncompetitive few = omega (arith, few)
    award_or_none false competitive noncompetitive few = omega (arith, few)

-- a sum of parts that are no more
sum_by_most : {X : Type 0} (f g : X → ℕ) (xs : List X) → ((x : X) → f x ≤ g x) → sum_by f xs ≤ sum_by g xs
sum_by_most f g [] less = omega arith
sum_by_most f g (x ∷ xs) less =
    omega (arith, sum_by-cons f x xs, sum_by-cons g x xs, less x, sum_by_most f g xs less)

-- so many each
sum_by_each : {X : Type 0} (number : ℕ) (xs : List X) → sum_by (λ (x : X). number) xs ≡ number * length xs
sum_by_each number [] = omega arith
sum_by_each {X} number (x ∷ xs) = omega (arith, sum_by-cons (λ (y : X). number) x xs, sum_by_each number xs)

-- where none passes nothing counts
none_counts : {X : Type 0} (test : X → Bool) (number : ℕ) (xs : List X)
    → All (λ x. test x ≡ false) xs
    → sum_by (λ x. cond (test x) number 0) xs ≡ 0
none_counts test number [] none = refl
none_counts {X} test number (x ∷ xs) none =
    let f : X → ℕ = λ y. cond (test y) number 0 in
    let here : f x ≡ 0 = rw (none 0 x (omega arith)) refl in
    omega (
      arith,
      sum_by-cons f x xs,
      here,
      none_counts test number xs (λ k d below. none (suc k) d (omega (arith, below))),
    )

-- where at most one passes a number counts at most once
one_counts : {X : Type 0} (test : X → Bool) (number : ℕ) (xs : List X)
    → AllPairs (λ one other. test one ≡ true → test other ≡ false) xs
    → sum_by (λ x. cond (test x) number 0) xs ≤ number
one_counts test number [] once = omega arith
one_counts {X} test number (x ∷ xs) once =
    let R : X → X → Type 0 = λ one other. test one ≡ true → test other ≡ false in
    let f : X → ℕ = λ y. cond (test y) number 0 in
    elim (cases_Bool (test x)) [
      | inl is ↦
          let rest : sum_by f xs ≡ 0 =
          none_counts test number xs (λ k d below. AllPairs-head R x xs once k d below is) in
          omega (arith, sum_by-cons f x xs, rest, cond-le (test x) number)
      | inr isnt ↦
          let here : f x ≡ 0 = rw isnt refl in
          omega (arith, sum_by-cons f x xs, here, one_counts test number xs (AllPairs-tail R x xs once))
    ]

-- what is claimed of a list by some of whom no two claim the same is no more than the list
claims_most : {X Y : Type 0} (claims : X → Y → Bool) (f : Y → ℕ) (xs : List X) (ys : List Y)
    → ((y : Y) → AllPairs (λ one other. claims one y ≡ true → claims other y ≡ false) xs)
    → sum_by (λ x. sum_by f (filter (claims x) ys)) xs ≤ sum_by f ys
claims_most claims f xs [] once = omega (arith, sum_by_each 0 xs)
claims_most {X} claims f xs (y ∷ ys) once =
    let here : X → ℕ = λ x. cond (claims x y) (f y) 0 in
    let rest : X → ℕ = λ x. sum_by f (filter (claims x) ys) in
    omega (
      arith,
      sum_by_agree (λ x. sum_by f (filter (claims x) (y ∷ ys))) (λ x. here x + rest x) xs
          (λ x. sum_by-filter-cons f (claims x) y ys),
      sum_by_plus here rest xs,
      one_counts (λ x. claims x y) (f y) xs (once y),
      claims_most claims f xs ys once,
      sum_by-cons f y ys,
    )

-- of some bids no more is bid than of all
par_of-some : (test : Bid → Bool) (all : List Bid) → par_of (filter test all) ≤ par_of all
par_of-some test [] = omega arith
par_of-some test (bid ∷ all) =
    let amount : Bid → ℕ = λ (b : Bid). b.amount.value in
    omega (
      arith,
      sum_by-filter-cons amount test bid all,
      cond-le (test bid) bid.amount.value,
      sum_by-cons amount bid all,
      par_of-some test all,
    )

-- two names that differ aren't both a third
apart_names : (one other third : List ℕ) → one ≢ other → is_same third one ≡ true → is_same third other ≡ false
apart_names one other third apart same =
    false_from_ne_true _ (λ also. apart (sym (is_same-equal third one same) ∙ is_same-equal third other also))

-- the noncompetitive bids of all bidders of an auction are no more than the bids in it
noncompetitive-most : (history : List Entry) (announcement : Announcement)
    → IsLegal history
    → sum_by (λ (enrolment : Enrolment). noncompetitive_of (bidding_in history announcement) enrolment.bidder)
    (enrolments history)
    ≤ par_of (filter (λ (bid : Bid). is_same bid.auction announcement.auction) (bids history))
noncompetitive-most history announcement legal =
    let amount : Bid → ℕ = λ (bid : Bid). bid.amount.value in
    let inside : List Bid = filter (λ (bid : Bid). is_same bid.auction announcement.auction) (bids history) in
    let live : List Bid = live_bids_in (bids history) (cancels history) announcement.auction in
    let distinct = IsLegal-distinct history legal in
    omega (
      arith,
      claims_most (λ (e : Enrolment) (bid : Bid). is_same bid.bidder e.bidder) amount (enrolments history)
          (noncompetitive_in live)
          (λ bid i j d before within same.
          apart_names (get_or (enrolments history) i d).bidder (get_or (enrolments history) j d).bidder bid.bidder
          (distinct i j d before within) same),
      par_of-some (λ (bid : Bid). is_none bid.rate) live,
      par_of-some (is_live (cancels history)) inside,
    )

-- what all bidders are awarded in an auction
awards_of-most : (history : List Entry) (announcement : Announcement)
    → IsLegal history
    → announcement.offering.value ≤ 10 ^ 12
    → awards_of history (enrolments history) announcement
    ≤ 350000000100 * 16384 + par_of (filter (λ (bid : Bid). is_same bid.auction announcement.auction) (bids history))
awards_of-most history announcement legal offered =
    let each : Enrolment → ℕ =
    λ (enrolment : Enrolment). noncompetitive_of (bidding_in history announcement) enrolment.bidder in
    omega (
      arith,
      sum_by_most (λ (enrolment : Enrolment). award_in history announcement enrolment.bidder)
          (λ (enrolment : Enrolment). 350000000100 + each enrolment) (enrolments history)
          (λ enrolment. awarded-most (bidding_in history announcement) enrolment.bidder offered),
      sum_by_plus (λ (enrolment : Enrolment). 350000000100) each (enrolments history),
      sum_by_each 350000000100 (enrolments history),
      IsLegal-enrolments history legal,
      noncompetitive-most history announcement legal,
    )

-- and what is issued in it
issued_in-most : (history : List Entry) (announcement : Announcement)
    → IsLegal history
    → announcement.offering.value ≤ 10 ^ 12
    → issued_in history announcement
    ≤ 350000000100 * 16384 + 10 ^ 12
    + par_of (filter (λ (bid : Bid). is_same bid.auction announcement.auction) (bids history))
issued_in-most history announcement legal offered =
    omega (arith, awards_of-most history announcement legal offered, added-most history announcement legal)

-- of some elements no more than of all, where each is in order
some-most : {X : Type 0} (P : X → Type 0) (f g : X → ℕ) (test : X → Bool) (xs : List X)
    → AllByRecursion P xs
    → ((x : X) → P x → f x ≤ g x)
    → sum_by f (filter test xs) ≤ sum_by g xs
some-most P f g test [] all less = omega arith
some-most P f g test (x ∷ xs) all less =
    omega (
      arith,
      sum_by-filter-cons f test x xs,
      cond-le (test x) (f x),
      less x all.0,
      sum_by-cons g x xs,
      some-most P f g test xs all.1 less,
    )

-- what is issued of a bill of a legal history is no more than is summed up
pub IsLegal-issued : (history : List Entry) (cusip : Cusip) → IsLegal history → issued history cusip ≤ most_par
unfolding issued
IsLegal-issued history cusip legal =
    let amount : Bid → ℕ = λ (bid : Bid). bid.amount.value in
    let inside : Announcement → Bid → Bool = λ (terms : Announcement) (bid : Bid). is_same bid.auction terms.auction in
    let bid_in : Announcement → ℕ =
    λ (announcement : Announcement). par_of (filter (inside announcement) (bids history)) in
    let names = IsLegal-names history legal in
    omega (
      arith,
      some-most IsInOrder (issued_in history)
          (λ (announcement : Announcement). 350000000100 * 16384 + 10 ^ 12 + bid_in announcement)
          (λ (announcement : Announcement). is_of_bill cusip announcement && is_settled history announcement.auction)
          (announcements history)
          (IsLegal-in_order history legal)
          (λ announcement in_order. issued_in-most history announcement legal (offering_of announcement in_order)),
      sum_by_plus (λ (announcement : Announcement). 350000000100 * 16384 + 10 ^ 12) bid_in (announcements history),
      sum_by_each (350000000100 * 16384 + 10 ^ 12) (announcements history),
      IsLegal-announcements history legal,
      claims_most inside amount (announcements history) (bids history)
          (λ bid i j d before within same.
          apart_names (get_or (announcements history) i d).auction
          (get_or (announcements history) j d).auction bid.auction
          (names i j d before within) same),
      IsLegal-bid_par history legal,
    )
