-- The bids so far wait in the row.
use Rattle.std.proofs.Common.{◌≤◌, length}
use Rattle.tb_session.specs.Rows.{WaitInRow}
use Rattle.tb_session.proofs.row.find_row.Given as goal

abbrev pub invariant-loop-place : goal.invariant-loop-place
invariant-loop-place l = record {
  row : WaitInRow l.row l.waiting;
  some : 1 ≤ length l.row.bids.items;
  few : length l.row.bids.items ≤ l._place;
}
