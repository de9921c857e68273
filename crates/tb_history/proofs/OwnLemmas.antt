-- What the own part of a legal history says.
use Rattle.std.proofs.Common.{◌≡◌, ℕ, Bool, true, not, ◌||◌, ◌&&◌, ◌==◌, Option, Some}
use Rattle.std.proofs.Common.{None, List, [], refl, sym, ap, ◌∙◌, subst, length}
use Rattle.std.specs.List.{filter, flat_map, AllByRecursion}
use Rattle.std.proofs.lemmas.Bool.{both_ways, and_parts, or_left, or_parts}
use Rattle.std.proofs.lemmas.Slice.Eq.{bytes_eq-Decides}
use Rattle.tb_message.specs.declared.message.Entry.{Entry}
use Rattle.tb_message.specs.declared.message.Message.{Message}
use Rattle.tb_history.specs.declared.roster.Enrolment.{Enrolment}
use Rattle.tb_history.specs.declared.bids.Bid.{Bid}
use Rattle.tb_history.specs.declared.bids.Cancel.{Cancel}
use Rattle.tb_history.specs.declared.bids.Report.{Report}
use Rattle.tb_history.specs.Entries.{is_same, operator, registered_by, enrolled_by, entered_by}
use Rattle.tb_history.specs.Entries.{announced_by, published_by, settled_by, redeemed_by, added_by}
use Rattle.tb_history.specs.Roster.{registrations, enrolments, holidays, announcements, publications, settlements}
use Rattle.tb_history.specs.Roster.{redemptions, add_ons, enrolment_of, is_under, is_enrolled, kept, sent_by}
use Rattle.tb_history.specs.LiveBids.{bids, cancels, reports, is_cancelled, is_live, is_of}
use Rattle.tb_history.specs.LiveBids.{bids_of, standing_of, has_report, bid_of}
use Rattle.tb_history.specs.OwnPart.{is_own, own_part}
use Rattle.tb_history.proofs.PartLemmas.{flat_map-filter, flat_map-filtered, filter-filter, list_any-filter}
use Rattle.tb_history.proofs.PartLemmas.{find-filter, filter-agree, AllByRecursion-from, AllByRecursion-weaker}
use Rattle.tb_history.proofs.PartLemmas.{AllByRecursion-filter}
use Rattle.tb_history.proofs.KindLemmas.{IsOperators, registered_by-others, enrolled_by-others, entered_by-others}
use Rattle.tb_history.proofs.KindLemmas.{announced_by-others, published_by-others, settled_by-others}
use Rattle.tb_history.proofs.KindLemmas.{redeemed_by-others, added_by-others, bid_by-part, cancelled_by-part}
use Rattle.tb_history.proofs.KindLemmas.{reported_by-part}
use Rattle.tb_history.proofs.SameLemmas.{is_same-equal}
use Rattle.tb_history.proofs.LegalLemmas.{IsOrderly, permitted-operators}

-- a submitter whose entries are in the own part
abbrev pub is_party : List ℕ → List ℕ → Bool
is_party s submitter = is_same submitter s || is_same submitter operator

-- the submitter itself is one
pub is_party-same : (s submitter : List ℕ) → is_same submitter s ≡ true → is_party s submitter ≡ true
is_party-same s submitter same = or_left (is_same submitter s) (is_same submitter operator) same

-- what only the operator says is in every own part
operators : {X : Type 0} (says : Message → List X)
    → ((message : Message) → ¬ (IsOperators message) → says message ≡ [])
    → (submitter : List ℕ) (history : List Entry)
    → IsOrderly history
    → flat_map (λ (entry : Entry). says entry.message) (own_part submitter history)
    ≡ flat_map (λ (entry : Entry). says entry.message) history
operators says others submitter history orderly =
    flat_map-filter (λ (entry : Entry). says entry.message) (is_own submitter) history
    (AllByRecursion-weaker _ _ (λ e party apart. others e.message
    (λ theirs. both_ways _ (or_parts (is_same e.submitter submitter) (is_same e.submitter operator) apart).1
    (permitted-operators e.submitter e.message party theirs))) history orderly.parties)

-- so the own part has all registrations
pub registrations-own : (submitter : List ℕ) (history : List Entry)
    → IsOrderly history
    → registrations (own_part submitter history) ≡ registrations history
unfolding registrations
registrations-own submitter history orderly = operators registered_by registered_by-others submitter history orderly

-- the enrolments
pub enrolments-own : (submitter : List ℕ) (history : List Entry)
    → IsOrderly history
    → enrolments (own_part submitter history) ≡ enrolments history
unfolding enrolments
enrolments-own submitter history orderly = operators enrolled_by enrolled_by-others submitter history orderly

-- the announcements
pub announcements-own : (submitter : List ℕ) (history : List Entry)
    → IsOrderly history
    → announcements (own_part submitter history) ≡ announcements history
unfolding announcements
announcements-own submitter history orderly = operators announced_by announced_by-others submitter history orderly

-- the publications
pub publications-own : (submitter : List ℕ) (history : List Entry)
    → IsOrderly history
    → publications (own_part submitter history) ≡ publications history
unfolding publications
publications-own submitter history orderly = operators published_by published_by-others submitter history orderly

-- the holidays
pub holidays-own : (submitter : List ℕ) (history : List Entry)
    → IsOrderly history
    → holidays (own_part submitter history) ≡ holidays history
unfolding holidays
holidays-own submitter history orderly = operators entered_by entered_by-others submitter history orderly

-- the settlements
pub settlements-own : (submitter : List ℕ) (history : List Entry)
    → IsOrderly history
    → settlements (own_part submitter history) ≡ settlements history
unfolding settlements
settlements-own submitter history orderly = operators settled_by settled_by-others submitter history orderly

-- the redemptions
pub redemptions-own : (submitter : List ℕ) (history : List Entry)
    → IsOrderly history
    → redemptions (own_part submitter history) ≡ redemptions history
unfolding redemptions
redemptions-own submitter history orderly = operators redeemed_by redeemed_by-others submitter history orderly

-- the add-ons
pub add_ons-own : (submitter : List ℕ) (history : List Entry)
    → IsOrderly history
    → add_ons (own_part submitter history) ≡ add_ons history
unfolding add_ons
add_ons-own submitter history orderly = operators added_by added_by-others submitter history orderly

-- a submitter's messages are in its own part
pub kept-own : (submitter : List ℕ) (number : ℕ) (history : List Entry)
    → kept (own_part submitter history) submitter number ≡ kept history submitter number
unfolding kept
kept-own submitter number history =
    find-filter _ (is_own submitter) history (AllByRecursion-from _
    (λ e passes. or_left (is_same e.submitter submitter) (is_same e.submitter operator)
    (and_parts (is_same e.submitter submitter) (e.number == number) passes).0) history)

-- and as many of them
pub sent_by-own : (submitter : List ℕ) (history : List Entry)
    → sent_by (own_part submitter history) submitter ≡ sent_by history submitter
unfolding sent_by
sent_by-own submitter history =
    ap length (filter-filter _ (is_own submitter) history (AllByRecursion-from _
    (λ e passes. or_left (is_same e.submitter submitter) (is_same e.submitter operator) passes) history))

-- the own part has the bids, cancels and reports of its submitters
pub bids-own : (submitter : List ℕ) (history : List Entry)
    → bids (own_part submitter history) ≡ filter (λ (bid : Bid). is_party submitter bid.submitter) (bids history)
unfolding bids
bids-own submitter history =
    flat_map-filtered _ (is_own submitter) _
    (λ e. bid_by-part (is_party submitter) e.submitter e.number e.message) history

-- and cancels
pub cancels-own : (submitter : List ℕ) (history : List Entry)
    → cancels (own_part submitter history)
    ≡ filter (λ (cancel : Cancel). is_party submitter cancel.submitter) (cancels history)
unfolding cancels
cancels-own submitter history =
    flat_map-filtered _ (is_own submitter) _ (λ e. cancelled_by-part (is_party submitter) e.submitter e.message) history

-- and reports
pub reports-own : (submitter : List ℕ) (history : List Entry)
    → reports (own_part submitter history)
    ≡ filter (λ (report : Report). is_party submitter report.submitter) (reports history)
unfolding reports
reports-own submitter history =
    flat_map-filtered _ (is_own submitter) _ (λ e. reported_by-part (is_party submitter) e.submitter e.message) history

-- the submitter's own bid of a number
pub bid_of-own : (submitter : List ℕ) (history : List Entry) (auction : List ℕ) (number : ℕ)
    → bid_of (bids (own_part submitter history)) submitter auction number
    ≡ bid_of (bids history) submitter auction number
bid_of-own submitter history auction number =
    rw (bids-own submitter history) (find-filter _ _ (bids history) (AllByRecursion-from _
    (λ b passes. is_party-same submitter b.submitter (and_parts (is_same b.submitter submitter)
    (is_same b.auction auction)
    (and_parts (is_same b.submitter submitter && is_same b.auction auction) (b.number == number) passes).0).0)
    (bids history)))

-- a cancel is its bid's submitter's
pub is_cancelled-own : (sender : List ℕ) (history : List Entry) (submitter auction : List ℕ) (number : ℕ)
    → is_party sender submitter ≡ true
    → is_cancelled (cancels (own_part sender history)) submitter auction number
    ≡ is_cancelled (cancels history) submitter auction number
is_cancelled-own sender history submitter auction number party =
    rw (cancels-own sender history) (list_any-filter _ _ (cancels history)
    (AllByRecursion-from _ (λ c passes. subst (λ (x : List ℕ). is_party sender x ≡ true)
    (sym (is_same-equal c.submitter submitter (and_parts (is_same c.submitter submitter)
    (is_same c.auction auction) (and_parts (is_same c.submitter submitter && is_same c.auction auction)
    (c.bid == number) passes).0).0)) party) (cancels history)))

-- an enrolment is under one submitter
one_submitter : (found : Option Enrolment) (s t : List ℕ) → is_under s found ≡ true → is_under t found ≡ true → t ≡ s
one_submitter None s t under also = cc
one_submitter (Some e) s t under also = sym (is_same-equal e.submitter t also) ∙ is_same-equal e.submitter s under

-- whatever a bidder's bids and reports are, they come from its submitter
party_of : (sender : List ℕ) (history : List Entry) (bidder : List ℕ)
    → is_enrolled history bidder sender ≡ true
    → (name submitter : List ℕ)
    → is_enrolled history name submitter ≡ true
    → is_same name bidder ≡ true
    → is_party sender submitter ≡ true
party_of sender history bidder enrolled name submitter theirs same =
    let under : is_under submitter (enrolment_of (enrolments history) bidder) ≡ true =
    subst (λ (b : List ℕ). is_enrolled history b submitter ≡ true) (is_same-equal name bidder same) theirs in
    is_party-same sender submitter ((bytes_eq-Decides submitter sender).1
    (one_submitter (enrolment_of (enrolments history) bidder) sender submitter enrolled under))

-- each bid of an enrolled bidder comes from its submitter
bidders_are_parties : (submitter : List ℕ) (history : List Entry)
    → IsOrderly history
    → (auction bidder : List ℕ)
    → is_enrolled history bidder submitter ≡ true
    → AllByRecursion (λ (bid : Bid). is_of auction bidder bid ≡ true → is_party submitter bid.submitter ≡ true)
    (bids history)
bidders_are_parties submitter history orderly auction bidder enrolled =
    AllByRecursion-weaker _ _ (λ b theirs passes. party_of submitter history bidder enrolled b.bidder b.submitter
    theirs.1
    (and_parts (is_same b.auction auction) (is_same b.bidder bidder) passes).1) (bids history) orderly.bidders

-- the bids of a bidder are in the own part of its submitter
bids_of-own : (submitter : List ℕ) (history : List Entry)
    → IsOrderly history
    → (auction bidder : List ℕ)
    → is_enrolled history bidder submitter ≡ true
    → bids_of (bids (own_part submitter history)) auction bidder ≡ bids_of (bids history) auction bidder
bids_of-own submitter history orderly auction bidder enrolled =
    rw (bids-own submitter history) (filter-filter _ _ (bids history)
    (bidders_are_parties submitter history orderly auction bidder enrolled))

-- so are its live bids
live_bids_of-own : (submitter : List ℕ) (history : List Entry)
    → IsOrderly history
    → (auction bidder : List ℕ)
    → is_enrolled history bidder submitter ≡ true
    → filter (is_live (cancels (own_part submitter history)))
    (bids_of (bids (own_part submitter history)) auction bidder)
    ≡ filter (is_live (cancels history)) (bids_of (bids history) auction bidder)
live_bids_of-own submitter history orderly auction bidder enrolled =
    ap (filter (is_live (cancels (own_part submitter history))))
    (bids_of-own submitter history orderly auction bidder enrolled)
    ∙ filter-agree _ _ (bids_of (bids history) auction bidder)
    (AllByRecursion-filter _ _ (bids history) (AllByRecursion-weaker _ _
    (λ b party passes. ap not (is_cancelled-own submitter history b.submitter b.auction b.number (party passes)))
    (bids history)
    (bidders_are_parties submitter history orderly auction bidder enrolled)))

-- and so are its reports
has_report-own : (submitter : List ℕ) (history : List Entry)
    → IsOrderly history
    → (auction bidder : List ℕ)
    → is_enrolled history bidder submitter ≡ true
    → has_report (reports (own_part submitter history)) auction bidder ≡ has_report (reports history) auction bidder
has_report-own submitter history orderly auction bidder enrolled =
    rw (reports-own submitter history) (list_any-filter _ _ (reports history)
    (AllByRecursion-weaker _ _ (λ r theirs passes. party_of submitter history bidder enrolled r.bidder r.submitter
    theirs.1
    (and_parts (is_same r.auction auction) (is_same r.bidder bidder) passes).1) (reports history) orderly.reporters))

-- what stands of a bidder is known from the own part of its submitter
pub standing_of-own : (submitter : List ℕ) (history : List Entry)
    → IsOrderly history
    → (auction bidder : List ℕ)
    → is_enrolled history bidder submitter ≡ true
    → standing_of (bids (own_part submitter history)) (cancels (own_part submitter history))
    (reports (own_part submitter history)) auction bidder
    ≡ standing_of (bids history) (cancels history) (reports history) auction bidder
unfolding standing_of
standing_of-own submitter history orderly auction bidder enrolled =
    rw (
      live_bids_of-own submitter history orderly auction bidder enrolled,
      bids_of-own submitter history orderly auction bidder enrolled,
      has_report-own submitter history orderly auction bidder enrolled,
    ) refl
