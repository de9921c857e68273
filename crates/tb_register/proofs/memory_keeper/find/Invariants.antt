use Rattle.std.proofs.Common.{map, ◌≡◌, drop}
use Rattle.tb_register.specs.Rows.{kept}
use Rattle.tb_register.specs.Tables.{row_named}
use Rattle.tb_register.proofs.memory_keeper.find.Given as goal

-- the row is among those that are left
abbrev pub invariant-loop-row : goal.invariant-loop-row
invariant-loop-row l = row_named l.name (map kept (drop l.row-index l.rows)) ≡ row_named l.name (map kept l.rows)
