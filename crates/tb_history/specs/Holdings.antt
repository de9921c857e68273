-- What participants hold of a bill, and what of it is pledged (31 CFR Part 357, Subpart B; that pledged par stays the
-- holder's is our choice).
use Rattle.std.specs.Prelude.{ℕ, ◌+◌, ◌-◌, ◌==◌, ◌&&◌, Bool, not, nat_lt, if◌then◌else◌}
use Rattle.std.specs.Prelude.{Option, Some, None, true, List, length, sum_by, take_while}
use Rattle.std.specs.List.{find, filter, flat_map}
use Rattle.tb_terms.specs.declared.announcement.Announcement.{Announcement}
use Rattle.tb_terms.specs.declared.cusip.Cusip.{Cusip}
use Rattle.tb_message.specs.declared.message.Entry.{Entry}
use Rattle.tb_message.specs.declared.message.Message.{Message}
use Rattle.tb_history.specs.declared.roster.Enrolment.{Enrolment}
use Rattle.tb_history.specs.declared.accounts.Transfer.{Transfer}
use Rattle.tb_history.specs.declared.accounts.Mark.{Mark}
use Rattle.tb_history.specs.declared.accounts.Release.{Release}
use Rattle.tb_history.specs.declared.accounts.Offer.{Offer}
use Rattle.tb_history.specs.declared.accounts.AddOn.{AddOn}
use Rattle.tb_history.specs.Entries.{is_same, transferred_by, pledged_by, released_by, redeemed_by}
use Rattle.tb_history.specs.Roster.{enrolments, announcements, redemptions, is_of_bill, is_settled, is_redeemed}
use Rattle.tb_history.specs.Roster.{add_ons, add_on_of}
use Rattle.tb_history.specs.Offers.{sales}
use Rattle.tb_history.specs.LiveBids.{bids, cancels, reports}
use Rattle.tb_history.specs.Awarded.{Bidding, bidding_of, awarded, par_in_all}

-- all accepted transfers
unfoldable pub transfers : List Entry → List Transfer
transfers history = flat_map (λ (entry : Entry). transferred_by entry.submitter entry.message) history

-- all accepted pledges
unfoldable pub marks : List Entry → List Mark
marks history = flat_map (λ (entry : Entry). pledged_by entry.submitter entry.number entry.message) history

-- all accepted releases
unfoldable pub releases : List Entry → List Release
releases history = flat_map (λ (entry : Entry). released_by entry.message) history

-- the bidding of an announced auction
abbrev pub bidding_in : List Entry → Announcement → Bidding
bidding_in history a = bidding_of (enrolments history) (bids history) (cancels history) (reports history) a

-- the bidder's award in an auction
abbrev pub award_in : List Entry → Announcement → List ℕ → ℕ
award_in history a bidder = awarded (bidding_in history a) bidder

-- the settled auctions of the bill
abbrev pub settled_auctions : List Entry → Cusip → List Announcement
settled_auctions history cusip =
    filter (λ (a : Announcement). is_of_bill cusip a && is_settled history a.auction) (announcements history)

-- the awards of some bidders in an auction
abbrev pub awards_of : List Entry → List Enrolment → Announcement → ℕ
awards_of history bidders a = sum_by (λ (e : Enrolment). award_in history a e.bidder) bidders

-- the bidders of a participant
abbrev pub bidders_of : List Entry → List ℕ → List Enrolment
bidders_of history participant = filter (λ (e : Enrolment). is_same e.submitter participant) (enrolments history)

-- an add-on is awarded in full where anything is awarded in its auction (our choice)
abbrev pub if_awarded : Bidding → Option AddOn → Option AddOn
if_awarded bidding add_on = if par_in_all bidding == 0 then None else add_on

-- the add-on that is awarded in an auction
unfoldable pub awarded_add_on : List Entry → Announcement → Option AddOn
awarded_add_on history a = if_awarded (bidding_in history a) (add_on_of (add_ons history) a.auction)

-- the par of an add-on, if its holder passes a test
abbrev pub par_added : (List ℕ → Bool) → Option AddOn → ℕ
par_added test None = 0
par_added test (Some x) = if test x.holder then x.amount.value else 0

-- what the participant is issued in an auction: the awards of its bidders, and the add-on of which it is the holder
abbrev pub issued_to : List Entry → List ℕ → Announcement → ℕ
issued_to history participant a =
    awards_of history (bidders_of history participant) a
    + par_added (λ name. is_same name participant) (awarded_add_on history a)

-- and in the settled auctions of the bill
unfoldable pub credited_to : List Entry → List ℕ → Cusip → ℕ
credited_to history participant cusip = sum_by (issued_to history participant) (settled_auctions history cusip)

-- what is issued in an auction: all awards, and the add-on
abbrev pub issued_in : List Entry → Announcement → ℕ
issued_in history a =
    awards_of history (enrolments history) a + par_added (λ name. true) (awarded_add_on history a)

-- what was issued of the bill: in its settled auctions
unfoldable pub issued : List Entry → Cusip → ℕ
issued history cusip = sum_by (issued_in history) (settled_auctions history cusip)

-- transfers of the bill to the participant
abbrev pub received_by : List Entry → List ℕ → Cusip → ℕ
received_by history participant cusip =
    sum_by (λ (t : Transfer). t.amount.value)
    (filter (λ (t : Transfer). is_same t.to participant && is_same t.cusip.bytes cusip.bytes) (transfers history))

-- and from it
abbrev pub sent_from : List Entry → List ℕ → Cusip → ℕ
sent_from history participant cusip =
    sum_by (λ (t : Transfer). t.amount.value)
    (filter (λ (t : Transfer). is_same t.from participant && is_same t.cusip.bytes cusip.bytes) (transfers history))

-- the par of the bill that the participant bought
abbrev pub bought_by : List Entry → List ℕ → Cusip → ℕ
bought_by history participant cusip =
    sum_by (λ (o : Offer). o.amount.value)
    (filter (λ (o : Offer). is_same o.buyer participant && is_same o.cusip.bytes cusip.bytes) (sales history))

-- and the par of its offers that were bought
abbrev pub sold_by : List Entry → List ℕ → Cusip → ℕ
sold_by history participant cusip =
    sum_by (λ (o : Offer). o.amount.value)
    (filter (λ (o : Offer). is_same o.seller participant && is_same o.cusip.bytes cusip.bytes) (sales history))

-- what came to the participant, by awards, transfers and purchases
abbrev pub par_to : List Entry → List ℕ → Cusip → ℕ
par_to history participant cusip =
    credited_to history participant cusip
    + (received_by history participant cusip + bought_by history participant cusip)

-- what went from it, by transfers and sales
abbrev pub par_from : List Entry → List ℕ → Cusip → ℕ
par_from history participant cusip = sent_from history participant cusip + sold_by history participant cusip

-- what the participant holds of the bill: nothing once it is redeemed
unfoldable pub held_of : List Entry → List ℕ → Cusip → ℕ
held_of history participant cusip =
    if is_redeemed (redemptions history) cusip then 0
    else par_to history participant cusip - par_from history participant cusip

-- the message redeems the bill
abbrev pub redeems : Cusip → Message → Bool
redeems cusip message = is_redeemed (redeemed_by message) cusip

-- the entries before the redemption of the bill
abbrev pub before_redemption : List Entry → Cusip → List Entry
before_redemption history cusip = take_while (λ (e : Entry). not (redeems cusip e.message)) history

-- what the participant was paid: what it held just before the redemption
unfoldable pub paid_to : List Entry → List ℕ → Cusip → ℕ
paid_to history participant cusip =
    if is_redeemed (redemptions history) cusip then held_of (before_redemption history cusip) participant cusip else 0

-- the holder's pledge of this number
unfoldable pub mark_of : List Entry → List ℕ → ℕ → Option Mark
mark_of history holder number =
    find (λ (mark : Mark). is_same mark.holder holder && (mark.number == number)) (marks history)

-- what was released of a pledge
abbrev pub released_of : List Entry → Mark → ℕ
released_of history mark =
    sum_by (λ (r : Release). r.amount.value)
    (filter (λ (r : Release). is_same r.holder mark.holder && (r.pledge == mark.number)) (releases history))

-- what is left of a pledge: nothing once its bill is redeemed
unfoldable pub left_of : List Entry → Mark → ℕ
left_of history mark =
    if is_redeemed (redemptions history) mark.cusip then 0 else mark.amount.value - released_of history mark

-- the par of the bill that the participant has pledged
unfoldable pub pledged_of : List Entry → List ℕ → Cusip → ℕ
pledged_of history participant cusip =
    sum_by (left_of history)
    (filter (λ (mark : Mark). is_same mark.holder participant && is_same mark.cusip.bytes cusip.bytes) (marks history))

-- and what of its par is free
unfoldable pub free_of : List Entry → List ℕ → Cusip → ℕ
free_of history participant cusip = held_of history participant cusip - pledged_of history participant cusip

-- how many pledges of the participant have something left
unfoldable pub open_marks : List Entry → List ℕ → ℕ
open_marks history participant =
    length (filter (λ (mark : Mark). is_same mark.holder participant && nat_lt 0 (left_of history mark))
    (marks history))
