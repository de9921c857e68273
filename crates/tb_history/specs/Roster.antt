-- Who takes part, and what is announced, published, settled and redeemed.
use Rattle.std.specs.Prelude.{ℕ, Bool, false, not, ◌==◌, ◌&&◌, ◌||◌, Option, Some, None, List, length}
use Rattle.std.specs.List.{find, filter, flat_map, list_any}
use Rattle.tb_units.specs.declared.day.Day.{Day}
use Rattle.tb_terms.specs.declared.announcement.Announcement.{Announcement}
use Rattle.tb_terms.specs.declared.cusip.Cusip.{Cusip}
use Rattle.tb_message.specs.declared.message.Entry.{Entry}
use Rattle.tb_history.specs.declared.roster.Registration.{Registration}
use Rattle.tb_history.specs.declared.roster.Enrolment.{Enrolment}
use Rattle.tb_history.specs.declared.accounts.AddOn.{AddOn}
use Rattle.tb_history.specs.Entries.{is_same, operator, registered_by, enrolled_by, entered_by}
use Rattle.tb_history.specs.Entries.{announced_by, published_by, settled_by, redeemed_by, added_by}

-- the submitters with their keys, in the order of registration
unfoldable pub registrations : List Entry → List Registration
registrations history = flat_map (λ (entry : Entry). registered_by entry.message) history

-- the bidders with their submitters, in the order of enrolment
unfoldable pub enrolments : List Entry → List Enrolment
enrolments history = flat_map (λ (entry : Entry). enrolled_by entry.message) history

-- the holidays, in the order in which they were entered
unfoldable pub holidays : List Entry → List Day
holidays history = flat_map (λ (entry : Entry). entered_by entry.message) history

-- the announcements, in their order
unfoldable pub announcements : List Entry → List Announcement
announcements history = flat_map (λ (entry : Entry). announced_by entry.message) history

-- the auctions whose results are published
unfoldable pub publications : List Entry → List (List ℕ)
publications history = flat_map (λ (entry : Entry). published_by entry.message) history

-- the auctions that are settled
unfoldable pub settlements : List Entry → List (List ℕ)
settlements history = flat_map (λ (entry : Entry). settled_by entry.message) history

-- the bills that are redeemed
unfoldable pub redemptions : List Entry → List Cusip
redemptions history = flat_map (λ (entry : Entry). redeemed_by entry.message) history

-- the add-ons, in their order
unfoldable pub add_ons : List Entry → List AddOn
add_ons history = flat_map (λ (entry : Entry). added_by entry.message) history

-- the add-on of the auction
abbrev pub add_on_of : List AddOn → List ℕ → Option AddOn
add_on_of added auction = find (λ (x : AddOn). is_same x.auction auction) added

-- a submitter of this name is registered
abbrev pub is_registered : List Registration → List ℕ → Bool
is_registered registered submitter = list_any (λ (r : Registration). is_same r.submitter submitter) registered

-- the operator and each registered submitter may send messages
abbrev pub is_caller : List Registration → List ℕ → Bool
is_caller registered submitter = is_same submitter operator || is_registered registered submitter

-- the bidder's enrolment, which is the first one
abbrev pub enrolment_of : List Enrolment → List ℕ → Option Enrolment
enrolment_of enrolled bidder = find (λ (e : Enrolment). is_same e.bidder bidder) enrolled

-- an enrolment is under the submitter
abbrev pub is_under : List ℕ → Option Enrolment → Bool
is_under submitter None = false
is_under submitter (Some enrolment) = is_same enrolment.submitter submitter

-- the bidder bids through this submitter
abbrev pub is_enrolled : List Entry → List ℕ → List ℕ → Bool
is_enrolled history bidder submitter = is_under submitter (enrolment_of (enrolments history) bidder)

-- the day is entered as a holiday
abbrev pub is_entered : List Day → Day → Bool
is_entered entered day = list_any (λ (d : Day). d.number == day.number) entered

-- the announcement of the auction
abbrev pub announcement_of : List Announcement → List ℕ → Option Announcement
announcement_of announced auction = find (λ (a : Announcement). is_same a.auction auction) announced

-- an auction is of the bill
abbrev pub is_of_bill : Cusip → Announcement → Bool
is_of_bill cusip a = is_same a.cusip.bytes cusip.bytes

-- the bill's announcement, which is that of the auction of it announced first
abbrev pub bill_of : List Announcement → Cusip → Option Announcement
bill_of announced cusip = find (is_of_bill cusip) announced

-- the auction is among those named
abbrev pub is_named : List (List ℕ) → List ℕ → Bool
is_named names auction = list_any (λ name. is_same name auction) names

-- a publication of the auction stands
abbrev pub is_published : List Entry → List ℕ → Bool
is_published history auction = is_named (publications history) auction

-- a settlement of the auction stands
abbrev pub is_settled : List Entry → List ℕ → Bool
is_settled history auction = is_named (settlements history) auction

-- the bill is redeemed
abbrev pub is_redeemed : List Cusip → Cusip → Bool
is_redeemed redeemed cusip = list_any (λ (c : Cusip). is_same c.bytes cusip.bytes) redeemed

-- the first announced auction of the bill that isn't settled
abbrev pub unsettled_of : List Announcement → List (List ℕ) → Cusip → Option Announcement
unsettled_of announced settled cusip =
    find (λ (a : Announcement). is_of_bill cusip a && not (is_named settled a.auction)) announced

-- the accepted message of this submitter and number
unfoldable pub kept : List Entry → List ℕ → ℕ → Option Entry
kept history submitter number = find (λ (e : Entry). is_same e.submitter submitter && (e.number == number)) history

-- how many messages of the submitter are accepted
unfoldable pub sent_by : List Entry → List ℕ → ℕ
sent_by history submitter = length (filter (λ (e : Entry). is_same e.submitter submitter) history)
