-- What holds of every legal history.
use Rattle.std.proofs.Common.{◌≡◌, ℕ, Bool, true, Option, Some, None}
use Rattle.std.proofs.Common.{List, [], ◌∷◌, ◌++◌, refl, is_some}
use Rattle.std.specs.List.{AllByRecursion}
use Rattle.std.proofs.lemmas.Bool.{not-false}
use Rattle.tb_units.specs.declared.rate.Rate.{Rate}
use Rattle.tb_units.specs.declared.moment.Moment.{Moment}
use Rattle.tb_terms.specs.declared.announcement.Announcement.{Announcement}
use Rattle.tb_message.specs.declared.message.Entry.{Entry}
use Rattle.tb_message.specs.declared.message.Message.{Message}
use Rattle.tb_message.specs.declared.message.Message.TheVariants as message
use Rattle.tb_history.specs.declared.bids.Bid.{Bid}
use Rattle.tb_history.specs.declared.bids.Report.{Report}
use Rattle.tb_history.specs.Entries.{is_same, operator, bid_by, reported_by}
use Rattle.tb_history.specs.Roster.{announcements, is_enrolled, announcement_of}
use Rattle.tb_rules.specs.BidRule.{Standing}
use Rattle.tb_history.specs.LiveBids.{standing_of, bids, cancels, reports}
use Rattle.tb_history.specs.Tables.{rows_of, bid_rows, position_rows}
use Rattle.tb_history.specs.Verdict.{is_permitted}
use Rattle.tb_history.specs.Legal.{IsLegal, Empty, Longer, Follows}
use Rattle.tb_history.proofs.PartLemmas.{AllByRecursion-append, AllByRecursion-weaker}
use Rattle.tb_history.proofs.GrowthLemmas.{bids-snoc, reports-snoc, is_enrolled-snoc, is_announced-snoc}
use Rattle.tb_history.proofs.AcceptedLemmas.{IsClear, accepted-passes}
use Rattle.tb_history.proofs.KindLemmas.{IsOperators}

-- what holds of the empty history, and lasts where an accepted entry is added, holds of every legal history
pub by_entries : (P : List Entry → Type 0)
    → P []
    → ((history : List Entry) (entry : Entry) → IsLegal history → P history → Follows history entry
    → P (history ++ entry ∷ []))
    → (history : List Entry)
    → IsLegal history
    → P history
by_entries P none more history Empty = none
by_entries P none more history (Longer before entry legal follows) =
    more before entry legal (by_entries P none more before legal) follows

-- the operator's kinds are the operator's
pub permitted-operators : (submitter : List ℕ) (sent : Message)
    → is_permitted submitter sent ≡ true
    → IsOperators sent
    → is_same submitter operator ≡ true
permitted-operators submitter sent permitted operators = rw operators at permitted

-- an accepted bid is of an announced auction, and of a bidder that is enrolled under its sender
bid_rows-clear : (found : Option Announcement) (enrolled : Bool) (standing : Standing) (moment : Moment)
    (rate : Option Rate) (amount : ℕ)
    → AllByRecursion IsClear (bid_rows found enrolled standing moment rate amount)
    → (is_some found ≡ true) × (enrolled ≡ true)
bid_rows-clear None enrolled standing moment rate amount clear = cc
bid_rows-clear (Some a) enrolled standing moment rate amount clear = (refl, not-false enrolled clear.0)

-- and so is an accepted report
position_rows-clear : (found : Option Announcement) (enrolled : Bool) (moment : Moment)
    → AllByRecursion IsClear (position_rows found enrolled moment)
    → (is_some found ≡ true) × (enrolled ≡ true)
position_rows-clear None enrolled moment clear = cc
position_rows-clear (Some a) enrolled moment clear = (refl, not-false enrolled clear.0)

-- the auction is announced, and the bidder enrolled under the submitter
abbrev pub IsPlaced : List Entry → Bid → Type 0
IsPlaced h b =
    (is_some (announcement_of (announcements h) b.auction) ≡ true) × (is_enrolled h b.bidder b.submitter ≡ true)

-- the same of a report
abbrev pub IsReported : List Entry → Report → Type 0
IsReported h r =
    (is_some (announcement_of (announcements h) r.auction) ≡ true) × (is_enrolled h r.bidder r.submitter ≡ true)

-- what an accepted message bids is of an announced auction and of the sender's bidder
bid_by-placed : (history : List Entry) (submitter : List ℕ) (number : ℕ) (moment : Moment) (sent : Message)
    → AllByRecursion IsClear (rows_of history submitter moment sent)
    → AllByRecursion (IsPlaced history) (bid_by submitter number sent)
bid_by-placed history submitter number moment (message.Bid auction bidder rate amount) clear = (
  bid_rows-clear (announcement_of (announcements history) auction) (is_enrolled history bidder submitter)
      (standing_of (bids history) (cancels history) (reports history) auction bidder) moment rate amount.value clear,
  tt,
)
bid_by-placed history submitter number moment other clear = tt

-- what an accepted message reports is of an announced auction and of the sender's bidder
reported_by-placed : (history : List Entry) (submitter : List ℕ) (moment : Moment) (sent : Message)
    → AllByRecursion IsClear (rows_of history submitter moment sent)
    → AllByRecursion (IsReported history) (reported_by submitter sent)
reported_by-placed history submitter moment (message.Position auction bidder position) clear = (
  position_rows-clear (announcement_of (announcements history) auction)
      (is_enrolled history bidder submitter) moment clear,
  tt,
)
reported_by-placed history submitter moment other clear = tt

-- a bid stays placed, and a report reported
IsPlaced-snoc : (history : List Entry) (entry : Entry) (bid : Bid)
    → IsPlaced history bid
    → IsPlaced (history ++ entry ∷ []) bid
IsPlaced-snoc history entry bid placed = (
  is_announced-snoc history entry bid.auction placed.0,
  is_enrolled-snoc history entry bid.bidder bid.submitter placed.1,
)

-- and a report reported
IsReported-snoc : (history : List Entry) (entry : Entry) (report : Report)
    → IsReported history report
    → IsReported (history ++ entry ∷ []) report
IsReported-snoc history entry report placed = (
  is_announced-snoc history entry report.auction placed.0,
  is_enrolled-snoc history entry report.bidder report.submitter placed.1,
)

-- Each entry's kind is its sender's; each bid and report is of an announced auction, and of a bidder enrolled under its
-- sender.
pub record IsOrderly (history : List Entry) : Type 0 where
  pub parties : AllByRecursion (λ (entry : Entry). is_permitted entry.submitter entry.message ≡ true) history
  pub bidders : AllByRecursion (IsPlaced history) (bids history)
  pub reporters : AllByRecursion (IsReported history) (reports history)

-- the empty history is orderly
IsOrderly-nil : IsOrderly []
unfolding bids reports
IsOrderly-nil = record { parties = tt; bidders = tt; reporters = tt }

-- and stays so with an accepted entry
IsOrderly-snoc : (history : List Entry) (entry : Entry)
    → IsLegal history
    → IsOrderly history
    → Follows history entry
    → IsOrderly (history ++ entry ∷ [])
IsOrderly-snoc history entry legal orderly follows =
    let passed = accepted-passes history entry.submitter entry.number entry.moment entry.message follows.accepted in
    let bids_now =
    AllByRecursion-append _ (bids history) _ orderly.bidders
    (bid_by-placed history entry.submitter entry.number entry.moment entry.message passed.rows) in
    let reports_now =
    AllByRecursion-append _ (reports history) _ orderly.reporters
    (reported_by-placed history entry.submitter entry.moment entry.message passed.rows) in
    record {
      parties = AllByRecursion-append _ history (entry ∷ []) orderly.parties
          (passed.permitted, tt);
      bidders = rw (bids-snoc history entry) (AllByRecursion-weaker _ _ (IsPlaced-snoc history entry)
          (bids history ++ bid_by entry.submitter entry.number entry.message) bids_now);
      reporters =
          rw (reports-snoc history entry) (AllByRecursion-weaker _ _ (IsReported-snoc history entry)
          (reports history ++ reported_by entry.submitter entry.message) reports_now);
    }

-- every legal history is orderly
pub IsLegal-orderly : (history : List Entry) → IsLegal history → IsOrderly history
IsLegal-orderly history legal = by_entries IsOrderly IsOrderly-nil IsOrderly-snoc history legal
