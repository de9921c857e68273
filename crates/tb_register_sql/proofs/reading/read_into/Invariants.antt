use Rattle.std.proofs.Common.{map, ◌≡◌, ◌≤◌, ◌+◌, ◌-◌, ◌++◌, drop, length, vec_len, vec_capacity}
use Rattle.tb_register.specs.Rows.{kept}
use Rattle.tb_register_sql.specs.Shelves.{kept_from}
use Rattle.tb_register_sql.proofs.reading.read_into.Given as goal

-- those that are read, and those that are left, are all; there is room for them, and no fault was counted
abbrev pub invariant-loop-each : goal.invariant-loop-each
invariant-loop-each l = record {
  all : map kept l.rows.items ++ map kept_from (drop l.each-index l.stored)
      ≡ map kept l.fn.rows.items ++ map kept_from l.stored;
  room : vec_len l.rows + (length l.stored - l.each-index) ≤ vec_capacity l.rows;
  no_fault : l.refusals ≡ l.fn.refusals;
}
