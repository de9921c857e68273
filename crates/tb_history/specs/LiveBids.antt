-- The bids of an auction, those of them that are live, and reports of positions.
use Rattle.std.specs.Prelude.{ℕ, ℤ, pos, Bool, not, ◌==◌, ◌&&◌, is_some, is_none, Option, List, [], ◌∷◌, length, sum_by}
use Rattle.std.specs.List.{find, filter, flat_map, list_any}
use Rattle.tb_message.specs.declared.message.Entry.{Entry}
use Rattle.tb_history.specs.declared.bids.Bid.{Bid}
use Rattle.tb_history.specs.declared.bids.Cancel.{Cancel}
use Rattle.tb_history.specs.declared.bids.Report.{Report}
use Rattle.tb_rules.specs.BidRule.{Standing}
use Rattle.tb_history.specs.Entries.{is_same, bid_by, cancelled_by, reported_by}

-- all accepted bids, in the order of acceptance
unfoldable pub bids : List Entry → List Bid
bids history = flat_map (λ (entry : Entry). bid_by entry.submitter entry.number entry.message) history

-- all accepted cancels
unfoldable pub cancels : List Entry → List Cancel
cancels history = flat_map (λ (entry : Entry). cancelled_by entry.submitter entry.message) history

-- all accepted reports
unfoldable pub reports : List Entry → List Report
reports history = flat_map (λ (entry : Entry). reported_by entry.submitter entry.message) history

-- a cancel of the submitter's bid of this number in this auction stands
abbrev pub is_cancelled : List Cancel → List ℕ → List ℕ → ℕ → Bool
is_cancelled cancelled submitter auction number =
    list_any (λ (c : Cancel). is_same c.submitter submitter && is_same c.auction auction && (c.bid == number)) cancelled

-- a bid is live where no cancel of it stands
abbrev pub is_live : List Cancel → Bid → Bool
is_live cancelled bid = not (is_cancelled cancelled bid.submitter bid.auction bid.number)

-- the live bids of an auction
abbrev pub live_bids_in : List Bid → List Cancel → List ℕ → List Bid
live_bids_in all cancelled auction =
    filter (is_live cancelled) (filter (λ (bid : Bid). is_same bid.auction auction) all)

-- a bid is of the bidder in the auction
abbrev pub is_of : List ℕ → List ℕ → Bid → Bool
is_of auction bidder bid = is_same bid.auction auction && is_same bid.bidder bidder

-- the bidder's bids in the auction
abbrev pub bids_of : List Bid → List ℕ → List ℕ → List Bid
bids_of all auction bidder = filter (is_of auction bidder) all

-- the submitter's accepted bid of this number in the auction
abbrev pub bid_of : List Bid → List ℕ → List ℕ → ℕ → Option Bid
bid_of all submitter auction number =
    find (λ (bid : Bid). is_same bid.submitter submitter && is_same bid.auction auction && (bid.number == number)) all

-- a report is of the bidder in the auction
abbrev pub is_report_of : List ℕ → List ℕ → Report → Bool
is_report_of auction bidder report = is_same report.auction auction && is_same report.bidder bidder

-- a report of the bidder stands in the auction
abbrev pub has_report : List Report → List ℕ → List ℕ → Bool
has_report reported auction bidder = list_any (is_report_of auction bidder) reported

-- the position of the last of some reports, else this one
abbrev pub last_position : ℤ → List Report → ℤ
last_position position [] = position
last_position position (report ∷ later) = last_position report.position later

-- the bidder's reported position in the auction: that of its last report there, else 0
abbrev pub position_of : List Report → List ℕ → List ℕ → ℤ
position_of reported auction bidder = last_position (pos 0) (filter (is_report_of auction bidder) reported)

-- the par of bids
abbrev pub par_of : List Bid → ℕ
par_of bids = sum_by (λ (bid : Bid). bid.amount.value) bids

-- bids with a rate
abbrev pub competitive_in : List Bid → List Bid
competitive_in bids = filter (λ (bid : Bid). is_some bid.rate) bids

-- bids without a rate
abbrev pub noncompetitive_in : List Bid → List Bid
noncompetitive_in bids = filter (λ (bid : Bid). is_none bid.rate) bids

-- what stands of the bidder in the auction, by the accepted bids, cancels and reports
unfoldable pub standing_of : List Bid → List Cancel → List Report → List ℕ → List ℕ → Standing
standing_of all cancelled reported auction bidder = record {
  competitive = par_of (competitive_in (filter (is_live cancelled) (bids_of all auction bidder)));
  noncompetitive = par_of (noncompetitive_in (filter (is_live cancelled) (bids_of all auction bidder)));
  accepted = length (bids_of all auction bidder);
  reported = has_report reported auction bidder;
}
