use Rattle.std.proofs.Common.{◌≡◌, map, take, vec_capacity}
use Rattle.tb_import.specs.Sent.{sent_of}
use Rattle.tb_import.proofs.table.BidTable.put_run.Given as goal

-- the bids of the rows so far are there, and no memory was taken
abbrev pub invariant-loop-row : goal.invariant-loop-row
invariant-loop-row l =
    (l.run.items ≡ map sent_of (take l.row-index l.row-items)) × (vec_capacity l.run ≡ vec_capacity l.fn.run)
