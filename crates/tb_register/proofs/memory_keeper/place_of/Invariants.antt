use Rattle.std.proofs.Common.{map, ◌-◌, ◌≡◌, ◌≤◌, ◌++◌, take, drop, length}
use Rattle.tb_register.specs.Rows.{kept}
use Rattle.tb_register.specs.Tables.{added}
use Rattle.tb_register.proofs.memory_keeper.place_of.Given as goal

-- the row belongs behind the rows that were passed
abbrev pub invariant-loop-place : goal.invariant-loop-place
invariant-loop-place l = record {
  within : l.place ≤ length l.rows;
  passed : added (kept l.row) (map kept l.rows)
      ≡ map kept (take l.place l.rows) ++ added (kept l.row) (map kept (drop l.place l.rows));
}

abbrev pub decreases-loop-place : goal.decreases-loop-place
decreases-loop-place l = length l.rows - l.place
