-- The bidding of a legal history, and how close its awards come to what is sought.
use Rattle.std.proofs.Common.{◌≡◌, ◌≢◌, ℕ, ◌-◌, ◌*◌, ◌%◌, ◌<◌, ◌≤◌, ◌==◌, Bool, true, false, not}
use Rattle.std.proofs.Common.{Option, Some, None, is_some, inl, inr, List, [], ◌∷◌, ◌++◌, length}
use Rattle.std.proofs.Common.{get_or, All, refl, ap, subst, arith, append-nil}
use Rattle.std.specs.List.{AllByRecursion, filter, flat_map}
use Rattle.std.proofs.lemmas.Bool.{both_ways, eqb-true, or_parts, not-false}
use Rattle.std.proofs.lemmas.List.Elements.{All-nil, All-cons}
use Rattle.std.proofs.lemmas.List.Sums.{sum_by-cons}
use Rattle.std.proofs.lemmas.List.Quantifiers.{all_pairs_push}
use Rattle.tb_units.specs.declared.rate.Rate.{Rate}
use Rattle.tb_units.specs.declared.moment.Moment.{Moment}
use Rattle.tb_units.specs.declared.lines.RateLine.{RateLine}
use Rattle.tb_units.proofs.ListLemmas.{AllPairs-nil}
use Rattle.tb_units.proofs.PlaceLemmas.{find_none}
use Rattle.tb_terms.specs.declared.announcement.Announcement.{Announcement}
use Rattle.tb_award.specs.Awards.{AreAwards, AreClose, AreWithin, IsInHundreds}
use Rattle.tb_award.specs.Cuts.{par_of, total_of, up_to, under, at, IsCut}
use Rattle.tb_award.proofs.CutLemmas.{par_of-le, par_of-split}
use Rattle.tb_award.proofs.AwardLemmas.{AreClose-awards, AreAwards-short, AreAwards-within}
use Rattle.tb_award.proofs.RecognitionLemmas.{IsRecognitionOf-hundreds}
use Rattle.tb_rules.specs.BidRule.{Standing, is_no_par}
use Rattle.tb_message.specs.declared.message.Entry.{Entry}
use Rattle.tb_message.specs.declared.message.Message.{Message}
use Rattle.tb_message.specs.declared.message.Message.TheVariants as message
use Rattle.tb_history.specs.declared.roster.Enrolment.{Enrolment}
use Rattle.tb_history.specs.declared.bids.Bid.{Bid}
use Rattle.tb_history.specs.Entries.{is_same, bid_by, enrolled_by}
use Rattle.tb_history.specs.Roster.{enrolments, announcements, enrolment_of, announcement_of, is_enrolled}
use Rattle.tb_history.specs.LiveBids.{bids, cancels, reports, is_live, standing_of}
use Rattle.tb_history.specs.Tables.{rows_of, bid_rows}
use Rattle.tb_history.specs.Legal.{IsLegal, Follows}
use Rattle.tb_history.specs.Awarded.{Bidding, par_in_all, sought_in}
use Rattle.tb_history.specs.Holdings.{bidding_in}
use Rattle.tb_history.specs.Readings.{AreDistinct, AreRecognisedOf, line_of, lines_of}
use Rattle.tb_history.proofs.PartLemmas.{AllByRecursion-append, AllByRecursion-filter, AllByRecursion-weaker}
use Rattle.tb_history.proofs.SameLemmas.{is_same-refl}
use Rattle.tb_history.proofs.GrowthLemmas.{enrolments-snoc}
use Rattle.tb_history.proofs.AcceptedLemmas.{IsClear, accepted-passes}
use Rattle.tb_history.proofs.LegalLemmas.{by_entries}
use Rattle.tb_history.proofs.EachLemmas.{IsLegal-each, bids-grow}
use Rattle.tb_history.proofs.ClosedLemmas.{IsInOrder, IsLegal-in_order, found-in, amounts_of}
use Rattle.tb_history.proofs.CutFigureLemmas.{HasPar-bidding}

-- an accepted enrolment is of a bidder that isn't enrolled
new_bidder : (enrolled : List Enrolment) (bidder : List ℕ)
    → is_some (enrolment_of enrolled bidder) ≡ false
    → (k : ℕ) (d : Enrolment)
    → k < length enrolled
    → (get_or enrolled k d).bidder ≢ bidder
new_bidder enrolled bidder unknown k d within same =
    let test : Enrolment → Bool = λ (enrolment : Enrolment). is_same enrolment.bidder bidder in
    let fails : test (get_or enrolled k d) ≡ false =
    find_none test enrolled (none_of (enrolment_of enrolled bidder) unknown) k d within in
    both_ways (test (get_or enrolled k d)) fails (subst
    (λ (x : List ℕ). is_same (get_or enrolled k d).bidder x ≡ true) same
    (is_same-refl (get_or enrolled k d).bidder))
  where
    -- what is not there is none
    none_of : (found : Option Enrolment) → is_some found ≡ false → found ≡ None
    none_of None lacks = refl
    none_of (Some enrolment) lacks = absurd cc

-- so an accepted message enrols nobody twice
distinct-message : (history : List Entry) (sender : List ℕ) (moment : Moment) (sent : Message)
    → AllByRecursion IsClear (rows_of history sender moment sent)
    → AreDistinct (enrolments history)
    → AreDistinct (enrolments history ++ enrolled_by sent)
distinct-message history sender moment (message.Enrol bidder submitter) clear distinct =
    all_pairs_push (λ (one other : Enrolment). one.bidder ≢ other.bidder) (enrolments history)
    (record { bidder = bidder; submitter = submitter }) distinct
    (λ k d within. new_bidder (enrolments history) bidder clear.1.0 k d within)
distinct-message history sender moment other clear distinct = rw (append-nil (enrolments history)) distinct

-- and stays so with an accepted entry
distinct-push : (history : List Entry) (entry : Entry)
    → IsLegal history
    → AreDistinct (enrolments history)
    → Follows history entry
    → AreDistinct (enrolments (history ++ entry ∷ []))
distinct-push history entry legal distinct follows =
    let passed = accepted-passes history entry.submitter entry.number entry.moment entry.message follows.accepted in
    rw (enrolments-snoc history entry) (distinct-message history entry.submitter entry.moment entry.message passed.rows
    distinct)

-- nobody is enrolled yet
distinct-nil : AreDistinct (enrolments [])
unfolding enrolments
distinct-nil = AllPairs-nil (λ (one other : Enrolment). one.bidder ≢ other.bidder)

-- no bidder is enrolled twice
pub IsLegal-distinct : (history : List Entry) → IsLegal history → AreDistinct (enrolments history)
IsLegal-distinct history legal =
    by_entries (λ history. AreDistinct (enrolments history)) distinct-nil distinct-push history legal

-- a bid is of whole hundreds
abbrev pub IsHundreds : Bid → Type 0
IsHundreds b = b.amount.value % 100 ≡ 0

-- what can be bid is a multiple of 100
no_par-hundreds : (amount : ℕ) → is_no_par amount ≡ false → amount % 100 ≡ 0
no_par-hundreds amount par =
    eqb-true (amount % 100) 0 (not-false (amount % 100 == 0) (or_parts (amount == 0) (not (amount % 100 == 0)) par).1)

-- an accepted bid is of whole hundreds
bid_rows-hundreds : (found : Option Announcement) (enrolled : Bool) (standing : Standing) (moment : Moment)
    (rate : Option Rate) (amount : ℕ)
    → AllByRecursion IsClear (bid_rows found enrolled standing moment rate amount)
    → amount % 100 ≡ 0
bid_rows-hundreds None enrolled standing moment rate amount clear = let wrong : true ≡ false = clear.0 in cc
bid_rows-hundreds (Some a) enrolled standing moment rate amount clear = no_par-hundreds amount clear.1.1.0

-- what an accepted message bids is of whole hundreds
bid_by-hundreds : (history : List Entry) (submitter : List ℕ) (number : ℕ) (moment : Moment) (sent : Message)
    → AllByRecursion IsClear (rows_of history submitter moment sent)
    → AllByRecursion IsHundreds (bid_by submitter number sent)
bid_by-hundreds history submitter number moment (message.Bid auction bidder rate amount) clear = (
  bid_rows-hundreds (announcement_of (announcements history) auction) (is_enrolled history bidder submitter)
      (standing_of (bids history) (cancels history) (reports history) auction bidder) moment rate amount.value clear,
  tt,
)
bid_by-hundreds history submitter number moment other clear = tt

-- every accepted bid is
pub IsLegal-hundreds : (history : List Entry) → IsLegal history → AllByRecursion IsHundreds (bids history)
IsLegal-hundreds =
    IsLegal-each (λ history. IsHundreds) bids
    (λ (entry : Entry). bid_by entry.submitter entry.number entry.message) bids-grow
    (record {
      begins = λ history entry legal follows passed.
          bid_by-hundreds history entry.submitter entry.number entry.moment entry.message passed.rows;
      stays = λ history entry bid is. is;
    })

-- by recursion or by place
pub All-from : {X : Type 0} (P : X → Type 0) (xs : List X) → AllByRecursion P xs → All P xs
All-from P [] all = All-nil P
All-from P (x ∷ xs) all = All-cons P x xs all.0 (All-from P xs all.1)

-- the lines of such bids are of whole hundreds
line_of-hundreds : (enrolled : List Enrolment) (bid : Bid) (rate : Option Rate)
    → IsHundreds bid
    → AllByRecursion IsInHundreds (line_of enrolled bid rate)
line_of-hundreds enrolled bid None hundreds = tt
line_of-hundreds enrolled bid (Some rate) hundreds = (hundreds, tt)

-- all lines of such bids
lines-hundreds : (enrolled : List Enrolment) (live : List Bid)
    → AllByRecursion IsHundreds live
    → AllByRecursion IsInHundreds (flat_map (λ (bid : Bid). line_of enrolled bid bid.rate) live)
lines-hundreds enrolled [] hundreds = tt
lines-hundreds enrolled (b ∷ live) hundreds =
    AllByRecursion-append IsInHundreds (line_of enrolled b b.rate)
    (flat_map (λ (bid : Bid). line_of enrolled bid bid.rate) live) (line_of-hundreds enrolled b b.rate hundreds.0)
    (lines-hundreds enrolled live hundreds.1)

-- the lines of a bidding are of whole hundreds
pub bidding-hundreds : (history : List Entry) (announcement : Announcement)
    → IsLegal history
    → All IsInHundreds (lines_of (bidding_in history announcement))
unfolding lines_of
bidding-hundreds history announcement legal =
    let inside : Bid → Bool = λ (bid : Bid). is_same bid.auction announcement.auction in
    let all = IsLegal-hundreds history legal in
    let live : AllByRecursion IsHundreds (filter (is_live (cancels history)) (filter inside (bids history))) =
    AllByRecursion-filter IsHundreds (is_live (cancels history)) (filter inside (bids history))
    (AllByRecursion-weaker IsHundreds _ (λ bid is lives. is) (filter inside (bids history))
    (AllByRecursion-filter IsHundreds inside (bids history)
    (AllByRecursion-weaker IsHundreds _ (λ bid is own. is) (bids history) all))) in
    All-from IsInHundreds _ (lines-hundreds (enrolments history) _ live)

-- something is sought in every announced auction
pub IsLegal-sought : (history : List Entry) (auction : List ℕ) (terms : Announcement)
    → IsLegal history
    → announcement_of (announcements history) auction ≡ Some terms
    → 100 ≤ sought_in (bidding_in history terms)
IsLegal-sought history auction terms legal found =
    let in_order =
    found-in IsInOrder (λ (announcement : Announcement). is_same announcement.auction auction)
    (announcements history) terms
    (IsLegal-in_order history legal) found in
    omega (arith, amounts_of terms in_order)

-- nothing is recognised just where the list is empty
total-none : (lines : List RateLine) → All (λ line. 0 < line.amount.value) lines → total_of lines ≡ 0 → lines ≡ []
total-none [] some none = refl
total-none (line ∷ lines) some none =
    absurd (omega (arith, some 0 line (omega arith), none, sum_by-cons (λ (l : RateLine). l.amount.value) line lines))

-- so nothing is recognised in all just where the list is empty
pub recognised-none_is : (bidding : Bidding) (recognised : List RateLine)
    → AreDistinct bidding.enrolled
    → AreRecognisedOf bidding recognised
    → (par_in_all bidding ≡ 0 → recognised ≡ []) × (recognised ≡ [] → par_in_all bidding ≡ 0)
unfolding par_in_all
recognised-none_is bidding recognised distinct are =
    let par = HasPar-bidding bidding recognised distinct are in (
      (λ none. total-none recognised (λ k d below. (are.each k d below).some) (omega (arith, par.total, none))),
      (λ empty. let nothing : total_of recognised ≡ 0 = ap total_of empty in omega (arith, par.total, nothing)),
    )

-- the awards come close
pub IsLegal-close : (history : List Entry) (auction : List ℕ) (announcement : Announcement)
    (recognised awards : List RateLine) (stop percent : ℕ)
    → IsLegal history
    → announcement_of (announcements history) auction ≡ Some announcement
    → AreRecognisedOf (bidding_in history announcement) recognised
    → IsCut (par_of recognised) (sought_in (bidding_in history announcement)) stop percent
    → AreAwards stop percent recognised awards
    → (sought_in (bidding_in history announcement) ≤ total_of recognised
    → AreClose recognised (sought_in (bidding_in history announcement)) stop awards)
    × (total_of recognised < sought_in (bidding_in history announcement) → awards ≡ recognised)
    × AreWithin recognised awards
IsLegal-close history auction announcement recognised awards stop percent legal found are (inl reaches) awards_are =
    let bidding = bidding_in history announcement in
    let some = IsLegal-sought history auction announcement legal found in
    let hundreds = IsRecognitionOf-hundreds (lines_of bidding) _ _ recognised
    (bidding-hundreds history announcement legal) are in
    let reached =
    omega_reached (sought_in bidding) (par_of recognised (up_to stop)) (total_of recognised) reaches.reached
    (par_of-le (up_to stop) recognised) in
    let whole : 10000 * (sought_in bidding - par_of recognised (under stop)) ≤ 10000 * par_of recognised (at stop) =
    omega (arith, reaches.reached, par_of-split stop recognised) in (
      (λ enough. AreClose-awards recognised awards (sought_in bidding) stop percent (omega (arith, some))
          reaches awards_are),
      (λ short. absurd (omega (arith, short, reached))),
      AreAwards-within stop percent recognised awards (reaches.least_percent 10000 whole) hundreds awards_are,
    )
  where
    -- what a part reaches the whole reaches
    omega_reached : (sought up total : ℕ) → sought ≤ up → up ≤ total → sought ≤ total
    omega_reached sought up total reached within = omega (arith, reached, within)
IsLegal-close history auction announcement recognised awards stop percent legal found are (inr short) awards_are =
    let bidding = bidding_in history announcement in
    let distinct = IsLegal-distinct history legal in
    let par = HasPar-bidding bidding recognised distinct are in
    let hundreds = IsRecognitionOf-hundreds (lines_of bidding) _ _ recognised
    (bidding-hundreds history announcement legal) are in
    let less : total_of recognised < sought_in bidding =
    omega (arith, short.short 199999, par.total, par.up 199999 (omega arith)) in (
      (λ enough. absurd (omega (arith, less, enough))),
      (λ is_short. AreAwards-short recognised awards (sought_in bidding) stop percent short hundreds awards_are),
      AreAwards-within stop percent recognised awards (omega (arith, short.whole)) hundreds awards_are,
    )
