-- The bids so far are those of the rows so far, and there is room for the others.
use Rattle.std.proofs.Common.{◌≡◌, ◌≤◌, length, map, take}
use Rattle.std.specs.Vec.{vec_capacity}
use Rattle.tb_entries.specs.Rows.{bid_in}
use Rattle.tb_entries.proofs.bids.bids_in.Given as goal

abbrev pub invariant-loop-row : goal.invariant-loop-row
invariant-loop-row l = record {
  bids : l.bids.items ≡ map (bid_in l.names) (take l.row-index l.rows);
  room : length l.rows ≤ vec_capacity l.bids;
}
