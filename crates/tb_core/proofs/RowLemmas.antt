-- The rows of a message on tables that are tied to the history are those on the history.
use Rattle.std.proofs.Common.{◌≡◌, ℕ, ℤ, Bool, Option, is_some, List, refl}
use Rattle.tb_units.specs.declared.moment.Moment.{Moment}
use Rattle.tb_units.specs.declared.amount.Dollars.{Dollars}
use Rattle.tb_units.specs.declared.rate.Rate.{Rate}
use Rattle.tb_terms.specs.declared.announcement.Announcement.{Announcement}
use Rattle.tb_terms.specs.declared.terms.Terms.{Terms}
use Rattle.tb_rules.specs.declared.own.Own.{Own}
use Rattle.tb_rules.specs.BidRule.{standing_in}
use Rattle.tb_message.specs.declared.message.Entry.{Entry}
use Rattle.tb_message.specs.declared.message.Message.TheVariants as message
use Rattle.tb_history.specs.declared.bids.Bid.{Bid}
use Rattle.tb_history.specs.Roster.{add_on_of, enrolment_of, is_under, announcement_of, is_named, is_redeemed, is_registered}
use Rattle.tb_history.specs.LiveBids.{bid_of, bids, is_cancelled, standing_of}
use Rattle.tb_history.specs.Tables.{rows_of, announce_rows, bid_rows, cancel_rows, position_rows, publish_rows, settle_rows, add_on_rows}
use Rattle.tb_core.specs.declared.tables.Tables.{Tables}
use Rattle.tb_tables.specs.Auctions.{announced_in, announcement_in}
use Rattle.tb_shelving.specs.Standings.{capped}
use Rattle.tb_core.specs.House.{AreTied}
use Rattle.tb_shelving.proofs.StandingLemmas.{bid_rows-capped}

-- announce
pub tied_announce : (h : List Entry) (tables : Tables) → AreTied h tables
    → (sender : List ℕ) (moment : Moment) (a : Announcement)
    → announce_rows (announced_in tables.auctions.list) (is_redeemed tables.redeemed.list a.cusip) a
    ≡ rows_of h sender moment (message.Announce a)
tied_announce h tables tied sender moment a = rw (tied.auctions_are, tied.redeemed_are) refl

-- what the look-ups of a bid give
pub record HasLooked (tables : Tables) (sender auction bidder : List ℕ) (found : Option Terms)
    (enrolled : Bool) : Type 0 where
  pub terms : announcement_in found ≡ announcement_of (announced_in tables.auctions.list) auction
  pub under : enrolled ≡ is_under sender (enrolment_of tables.bidders.list bidder)

-- bid
pub tied_bid : (h : List Entry) (tables : Tables) → AreTied h tables
    → (sender : List ℕ) (moment : Moment) (auction bidder : List ℕ) (rate : Option Rate) (amount : Dollars)
    → (found : Option Terms) (enrolled : Bool) (own : Own)
    → HasLooked tables sender auction bidder found enrolled
    → standing_in own ≡ capped (standing_of tables.bids.list tables.cancels.list tables.reports.list auction bidder)
    → bid_rows (announcement_in found) enrolled (standing_in own) moment rate amount.value
    ≡ rows_of h sender moment (message.Bid auction bidder rate amount)
tied_bid h tables tied sender moment auction bidder rate amount found enrolled own looked standing =
    rw (
      looked.terms,
      looked.under,
      standing,
      tied.auctions_are,
      tied.bidders_are,
      tied.bids_are,
      tied.cancels_are,
      tied.reports_are,
    )
    (bid_rows-capped _ _ _ moment rate amount.value)

-- cancel
pub tied_cancel : (h : List Entry) (tables : Tables) → AreTied h tables
    → (sender : List ℕ) (moment : Moment) (auction : List ℕ) (number : ℕ)
    → (found : Option Terms) (bid : Option Bid) (cancelled : Bool)
    → announcement_in found ≡ announcement_of (announced_in tables.auctions.list) auction
    → bid ≡ bid_of (bids h) sender auction number
    → cancelled ≡ is_cancelled tables.cancels.list sender auction number
    → cancel_rows (announcement_in found) bid cancelled moment ≡ rows_of h sender moment (message.Cancel auction number)
tied_cancel h tables tied sender moment auction number found bid cancelled terms there gone =
    rw (terms, there, gone, tied.auctions_are, tied.cancels_are) refl

-- position
pub tied_position : (h : List Entry) (tables : Tables) → AreTied h tables
    → (sender : List ℕ) (moment : Moment) (auction bidder : List ℕ) (position : ℤ)
    → (found : Option Terms) (enrolled : Bool)
    → HasLooked tables sender auction bidder found enrolled
    → position_rows (announcement_in found) enrolled moment
    ≡ rows_of h sender moment (message.Position auction bidder position)
tied_position h tables tied sender moment auction bidder position found enrolled looked =
    rw (looked.terms, looked.under, tied.auctions_are, tied.bidders_are) refl

-- publish
pub tied_publish : (h : List Entry) (tables : Tables) → AreTied h tables
    → (sender : List ℕ) (moment : Moment) (auction : List ℕ)
    → (found : Option Terms) (published : Bool)
    → announcement_in found ≡ announcement_of (announced_in tables.auctions.list) auction
    → published ≡ is_named tables.published.list auction
    → publish_rows (announcement_in found) published moment ≡ rows_of h sender moment (message.Publish auction)
tied_publish h tables tied sender moment auction found published terms named =
    rw (terms, named, tied.auctions_are, tied.published_are) refl

-- settle
pub tied_settle : (h : List Entry) (tables : Tables) → AreTied h tables
    → (sender : List ℕ) (moment : Moment) (auction : List ℕ)
    → (found : Option Terms) (published settled : Bool)
    → announcement_in found ≡ announcement_of (announced_in tables.auctions.list) auction
    → published ≡ is_named tables.published.list auction
    → settled ≡ is_named tables.settled.list auction
    → settle_rows (announcement_in found) published settled moment ≡ rows_of h sender moment (message.Settle auction)
tied_settle h tables tied sender moment auction found published settled terms named done =
    rw (terms, named, done, tied.auctions_are, tied.published_are, tied.settled_are) refl

-- add-on
pub tied_add_on : (h : List Entry) (tables : Tables) → AreTied h tables
    → (sender : List ℕ) (moment : Moment) (auction holder : List ℕ) (amount : Dollars)
    → (found : Option Terms) (known standing : Bool)
    → announcement_in found ≡ announcement_of (announced_in tables.auctions.list) auction
    → known ≡ is_registered tables.submitters.list holder
    → standing ≡ is_some (add_on_of tables.add_ons.list auction)
    → add_on_rows (announcement_in found) known standing moment amount.value
    ≡ rows_of h sender moment (message.AddOn auction holder amount)
tied_add_on h tables tied sender moment auction holder amount found known standing found_is known_is standing_is =
    rw (found_is, known_is, standing_is, tied.auctions_are, tied.submitters_are, tied.add_ons_are) refl
