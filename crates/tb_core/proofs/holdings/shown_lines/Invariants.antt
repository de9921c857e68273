-- The auctions before this place have their lines.
use Rattle.std.proofs.Common.{◌≡◌, ℕ, ◌-◌, ◌≤◌, true, List, length, take}
use Rattle.std.specs.Prelude.{filter}
use Rattle.tb_message.specs.declared.message.Entry.{Entry}
use Rattle.tb_history.specs.Roster.{registrations, is_registered}
use Rattle.tb_history.specs.Readings.{AreHoldingLines}
use Rattle.tb_tables.specs.Auctions.{announced_in}
use Rattle.tb_ledger.specs.Accounting.{numbers_in}
use Rattle.tb_core.specs.Shown.{is_shown}
use Rattle.tb_core.specs.House.{AreTied}
use Rattle.tb_core.proofs.holdings.shown_lines.Given as goal

abbrev pub invariant-loop-place : goal.invariant-loop-place
invariant-loop-place l = record {
  within : l.from ≤ length l.tables.auctions.list;
  shown : (history : List Entry) (participant : List ℕ) → AreTied history l.tables
      → is_registered (registrations history) participant ≡ true
      → l.holder ≡ (numbers_in l.tables.submitters.list l.tables.auctions.list).holder participant
      → AreHoldingLines history participant
      (filter (is_shown history participant) (announced_in (take l.from l.tables.auctions.list))) l.lines;
}

abbrev pub decreases-loop-place : goal.decreases-loop-place
decreases-loop-place l = length l.tables.auctions.list - l.from
