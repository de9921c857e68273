-- The room of a settlement.
use Rattle.std.specs.Prelude.{◌≡◌, ℕ, ℤ, ◌+◌, ◌<◌, ◌≤◌, List, map, vec_capacity}
use Rattle.tb_history.specs.declared.roster.Enrolment.{Enrolment}
use Rattle.tb_history.specs.declared.bids.Report.{Report}
use Rattle.tb_history.specs.LiveBids.{position_of}
use Rattle.tb_ledger.specs.declared.scratch.Scratch.{Scratch}

-- where the room is to last for more messages, there is room for as many bids and bidders more
pub record HasScratch (bids bidders : ℕ) (scratch : Scratch) : Type 0 where
  pub lines : 0 < scratch.lasts → bids + scratch.lasts ≤ scratch.recognised.line_room
  pub bidders_too : 0 < scratch.lasts → bidders + scratch.lasts ≤ scratch.recognised.bidder_room
  pub positions : 0 < scratch.lasts → bidders + scratch.lasts ≤ vec_capacity scratch.positions
  pub awards : 0 < scratch.lasts → bidders + scratch.lasts ≤ vec_capacity scratch.awards

-- the room of a settlement lasts for a message fewer
pub record IsTaken (old new : Scratch) : Type 0 where
  pub lasts : old.lasts ≤ new.lasts + 1
  pub has : (bids bidders : ℕ) → HasScratch bids bidders old → HasScratch (bids + 1) (bidders + 1) new

-- as much room as before, and it lasts as long
pub record KeepsScratch (old new : Scratch) : Type 0 where
  pub lasts : new.lasts ≡ old.lasts
  pub lines : old.recognised.line_room ≤ new.recognised.line_room
  pub bidders : old.recognised.bidder_room ≤ new.recognised.bidder_room
  pub positions : vec_capacity old.positions ≤ vec_capacity new.positions
  pub awards : vec_capacity old.awards ≤ vec_capacity new.awards

-- the reported position of each of some bidders in an auction
abbrev pub positions_by : List Report → List ℕ → List Enrolment → List ℤ
positions_by reported auction enrolled = map (λ (e : Enrolment). position_of reported auction e.bidder) enrolled
