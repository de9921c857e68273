-- The bidding of an auction that is announced in a legal history can be cut.
use Rattle.std.proofs.Common.{◌≡◌, ℕ, ◌%◌, ◌<◌, ◌==◌, Bool, true, false, not, if◌then◌else◌, ◌&&◌, nat_le, Option, Some, None, inl, inr, List, [], ◌∷◌, ◌++◌, length, refl, sym, ap, ◌∙◌, subst, arith}
use Rattle.std.specs.Prelude.{IfSome}
use Rattle.std.specs.List.{AllByRecursion, filter, find, position_or_len}
use Rattle.std.proofs.lemmas.Bool.{and_parts, both_ways, cases_Bool, cases_eq, eq-eqb, eqb-true, not-false, or_parts}
use Rattle.std.proofs.lemmas.List.Folds.{find_at}
use Rattle.std.proofs.lemmas.Option.{slice_get_within}
use Rattle.tb_units.specs.Multiples.{is_multiple}
use Rattle.tb_units.specs.declared.moment.Moment.{Moment}
use Rattle.tb_units.specs.declared.rate.Rate.{Rate}
use Rattle.tb_price.specs.Prices.{HasPrice, has_price}
use Rattle.tb_price.proofs.PriceLemmas.{HasPrice-test}
use Rattle.tb_terms.specs.Announcements.{has_amounts, has_closings, has_dates, is_within, most_offering, offering_unit}
use Rattle.tb_terms.specs.Cusips.{is_cusip}
use Rattle.tb_terms.specs.declared.announcement.Announcement.{Announcement}
use Rattle.tb_terms.specs.declared.checking.TermsFault.TheVariants as fault
use Rattle.tb_rules.specs.BidRule.{Standing, is_no_par, lacks_price}
use Rattle.tb_message.specs.declared.message.Entry.{Entry}
use Rattle.tb_message.specs.declared.message.Message.{Message}
use Rattle.tb_message.specs.declared.message.Message.TheVariants as message
use Rattle.tb_history.specs.declared.roster.Enrolment.{Enrolment}
use Rattle.tb_history.specs.declared.bids.Bid.{Bid}
use Rattle.tb_history.specs.Entries.{bid_by, is_same}
use Rattle.tb_history.specs.Roster.{announcement_of, announcements, enrolment_of, enrolments, is_enrolled, is_under}
use Rattle.tb_history.specs.LiveBids.{bids, cancels, is_live, reports, standing_of}
use Rattle.tb_history.specs.Tables.{bid_rows, rows_of}
use Rattle.tb_history.specs.Legal.{IsLegal}
use Rattle.tb_history.specs.Holdings.{bidding_in}
use Rattle.tb_history.specs.Readings.{days_of, place_of}
use Rattle.tb_history.proofs.PartLemmas.{AllByRecursion-filter, AllByRecursion-weaker}
use Rattle.tb_history.proofs.SameLemmas.{is_same-equal}
use Rattle.tb_history.proofs.GrowthLemmas.{is_enrolled-snoc}
use Rattle.tb_history.proofs.AcceptedLemmas.{IsClear}
use Rattle.tb_history.proofs.EachLemmas.{IsLegal-each, bids-grow}
use Rattle.tb_history.proofs.ClosedLemmas.{IsInOrder, IsLegal-in_order, announced-push, found-in}
use Rattle.tb_history.proofs.CloseLemmas.{All-from, IsLegal-distinct, IsLegal-sought}
use Rattle.tb_results.specs.Biddings.{IsSound, IsSoundBid}

-- a bid that no row refuses: its auction is announced and its bidder enrolled, and its par and its rate can be bid
pub record IsClearBid (found : Option Announcement) (enrolled : Bool) (rate : Option Rate) (amount : ℕ) : Type 0 where
  pub a : Announcement
  pub announced : found ≡ Some a
  pub known : enrolled ≡ true
  pub par : is_no_par amount ≡ false
  pub priced : lacks_price a rate ≡ false

-- an accepted bid is one
bid_rows-clear : (found : Option Announcement) (enrolled : Bool) (standing : Standing) (moment : Moment)
    (rate : Option Rate) (amount : ℕ)
    → AllByRecursion IsClear (bid_rows found enrolled standing moment rate amount)
    → IsClearBid found enrolled rate amount
bid_rows-clear None enrolled standing moment rate amount clear = let wrong : true ≡ false = clear.0 in absurd cc
bid_rows-clear (Some a) enrolled standing moment rate amount clear = record {
  a = a;
  announced = refl;
  known = not-false enrolled clear.0;
  par = clear.1.1.0;
  priced = clear.1.1.1.0;
}

-- the same of a bid in a history
abbrev pub IsAcceptedBid : List Entry → Bid → Type 0
IsAcceptedBid h b =
    IsClearBid (announcement_of (announcements h) b.auction) (is_enrolled h b.bidder b.submitter) b.rate b.amount.value

-- what an accepted message bids
bid_by-accepted : (h : List Entry) (s : List ℕ) (n : ℕ) (moment : Moment) (m : Message)
    → AllByRecursion IsClear (rows_of h s moment m)
    → AllByRecursion (IsAcceptedBid h) (bid_by s n m)
bid_by-accepted h s n moment (message.Bid auction bidder rate amount) clear = (
  bid_rows-clear (announcement_of (announcements h) auction) (is_enrolled h bidder s)
      (standing_of (bids h) (cancels h) (reports h) auction bidder) moment rate amount.value clear,
  tt,
)
bid_by-accepted h s n moment other clear = tt

-- it stays so with one entry more
IsAcceptedBid-snoc : (h : List Entry) (e : Entry) (b : Bid) → IsAcceptedBid h b → IsAcceptedBid (h ++ e ∷ []) b
IsAcceptedBid-snoc h e b is = record {
  a = is.a;
  announced = announced-push h e b.auction is.a is.announced;
  known = is_enrolled-snoc h e b.bidder b.submitter is.known;
  par = is.par;
  priced = is.priced;
}

-- every bid of a legal history is so
IsLegal-accepted : (h : List Entry) → IsLegal h → AllByRecursion (IsAcceptedBid h) (bids h)
IsLegal-accepted =
    IsLegal-each IsAcceptedBid bids (λ (e : Entry). bid_by e.submitter e.number e.message) bids-grow
    (record {
      begins = λ h e legal follows passed. bid_by-accepted h e.submitter e.number e.moment e.message passed.rows;
      stays = IsAcceptedBid-snoc;
    })

-- what is found has a place
found-within : {X : Type 0} (test : X → Bool) (xs : List X) (x : X)
    → find test xs ≡ Some x
    → position_or_len test xs < length xs
found-within test xs x found = slice_get_within xs (position_or_len test xs) x (sym (find_at test xs) ∙ found)

-- and passes the test
found-passes : {X : Type 0} (test : X → Bool) (xs : List X) (x : X) → find test xs ≡ Some x → test x ≡ true
found-passes test [] x found = absurd cc
found-passes test (y ∷ ys) x found =
    elim (cases_Bool (test y)) [
      | inl is ↦ let one : Some y ≡ Some x = rw is at found in
          let same : y ≡ x = cc in ap test (sym same) ∙ is
      | inr fails ↦ found-passes test ys x (rw fails at found)
    ]

-- an enrolled bidder has a number
known-enrolled : (enrolled : List Enrolment) (bidder submitter : List ℕ) (found : Option Enrolment)
    → enrolment_of enrolled bidder ≡ found
    → is_under submitter found ≡ true
    → place_of enrolled bidder < length enrolled
known-enrolled enrolled bidder submitter None is under = absurd cc
known-enrolled enrolled bidder submitter (Some e) is under =
    found-within (λ (x : Enrolment). is_same x.bidder bidder) enrolled e is

-- a rate that can be bid has a price
price-of : (a : Announcement) (rate : Option Rate)
    → lacks_price a rate ≡ false
    → IfSome rate (λ found. HasPrice found.steps (days_of a))
price-of a None priced = tt
price-of a (Some rate) priced =
    HasPrice-test rate.steps (days_of a) (not-false (has_price rate.steps (days_of a)) priced)

-- par that can be bid isn't zero
some-par : (amount : ℕ) → (amount == 0) ≡ false → 0 < amount
some-par amount some =
    elim (cases_eq amount 0) [
      | inl zero ↦ absurd (both_ways (amount == 0) some (eq-eqb amount 0 zero))
      | inr other ↦ let apart : ¬ (amount ≡ 0) = other in omega (arith, apart)
    ]

-- an accepted bid in the auction is a sound one of its bidding
sound-bid : (h : List Entry) (auction : List ℕ) (a : Announcement) (b : Bid)
    → announcement_of (announcements h) auction ≡ Some a
    → is_same b.auction a.auction ≡ true
    → IsAcceptedBid h b
    → IsSoundBid (bidding_in h a) b
sound-bid h auction a b found own is =
    let test : Announcement → Bool = λ (x : Announcement). is_same x.auction auction in
    let named : a.auction ≡ auction = is_same-equal a.auction auction (found-passes test (announcements h) a found) in
    let same : b.auction ≡ auction = is_same-equal b.auction a.auction own ∙ named in
    let there : announcement_of (announcements h) auction ≡ Some is.a =
    subst (λ (name : List ℕ). announcement_of (announcements h) name ≡ Some is.a) same is.announced in
    let one : Some is.a ≡ Some a = sym there ∙ found in
    let its : is.a ≡ a = cc in
    let par = or_parts (b.amount.value == 0) (not (b.amount.value % 100 == 0)) is.par in
    record {
      known = known-enrolled (enrolments h) b.bidder b.submitter (enrolment_of (enrolments h) b.bidder) refl is.known;
      some = some-par b.amount.value par.0;
      hundreds = eqb-true (b.amount.value % 100) 0 (not-false (b.amount.value % 100 == 0) par.1);
      priced = subst (λ (x : Announcement). IfSome b.rate (λ rate. HasPrice rate.steps (days_of x))) its
          (price-of is.a b.rate is.priced);
    }

-- an announcement in order has its amounts in order
amounts-faultless : (a b c d : Bool)
    → (if a then (if b then (if c then (if d then None else Some fault.BadClosing) else Some fault.BadAmounts)
    else Some fault.BadDates) else Some fault.BadCusip) ≡ None
    → c ≡ true
amounts-faultless true true true d none = refl
amounts-faultless true true false d none = absurd cc
amounts-faultless true false c d none = absurd cc
amounts-faultless false b c d none = absurd cc

-- so it offers whole hundreds
offers-hundreds : (a : Announcement) → IsInOrder a → a.offering.value % 100 ≡ 0
offers-hundreds a in_order =
    let amounts =
    amounts-faultless (is_cusip a.cusip.bytes) (has_dates a) (has_amounts a) (has_closings a) in_order in
    let size = a.offering.value in
    let multiple = is_multiple offering_unit most_offering size in
    let minimum = is_within a a.minimum.value in
    let ceiling = is_within a a.nc_ceiling.value in
    let floor = is_within a a.competitive_floor.value in
    let third = and_parts (multiple && minimum && ceiling && floor) (is_within a a.nlp_threshold.value) amounts in
    let second = and_parts (multiple && minimum && ceiling) floor third.0 in
    let first = and_parts (multiple && minimum) ceiling second.0 in
    let holds = and_parts multiple minimum first.0 in
    let parts = and_parts ((size % offering_unit == 0) && nat_le offering_unit size)
    (nat_le size most_offering) holds.0 in
    let millions : size % 1000000 ≡ 0 =
    eqb-true (size % offering_unit) 0
    (and_parts (size % offering_unit == 0) (nat_le offering_unit size) parts.0).0 in
    omega (arith, millions)

-- the bidding of an announced auction can be cut
pub IsLegal-sound : (h : List Entry) (auction : List ℕ) (a : Announcement)
    → IsLegal h
    → announcement_of (announcements h) auction ≡ Some a
    → IsSound (bidding_in h a)
IsLegal-sound h auction a legal found =
    let inside : Bid → Bool = λ (b : Bid). is_same b.auction a.auction in
    let Q : Bid → Type 0 = IsSoundBid (bidding_in h a) in
    let in_order =
    found-in IsInOrder (λ (x : Announcement). is_same x.auction auction) (announcements h) a
    (IsLegal-in_order h legal) found in
    let live : AllByRecursion Q (filter (is_live (cancels h)) (filter inside (bids h))) =
    AllByRecursion-filter Q (is_live (cancels h)) (filter inside (bids h))
    (AllByRecursion-weaker Q _ (λ b is lives. is) (filter inside (bids h))
    (AllByRecursion-filter Q inside (bids h)
    (AllByRecursion-weaker (IsAcceptedBid h) _ (λ b is own. sound-bid h auction a b found own is) (bids h)
    (IsLegal-accepted h legal)))) in
    record {
      distinct = IsLegal-distinct h legal;
      offering = offers-hundreds a in_order;
      sought = IsLegal-sought h auction a legal found;
      bids = All-from Q (filter (is_live (cancels h)) (filter inside (bids h))) live;
    }
