use Rattle.std.proofs.Common.{map, ◌≡◌, ◌++◌, drop}
use Rattle.tb_register.specs.Rows.{kept}
use Rattle.tb_register.specs.Tables.{of_cusip}
use Rattle.tb_register.proofs.memory_keeper.with_cusip.Given as goal

-- those found, and those among what is left, are all
abbrev pub invariant-loop-row : goal.invariant-loop-row
invariant-loop-row l =
    map kept l.found.items ++ of_cusip l.cusip.bytes (map kept (drop l.row-index l.rows))
    ≡ of_cusip l.cusip.bytes (map kept l.rows)
