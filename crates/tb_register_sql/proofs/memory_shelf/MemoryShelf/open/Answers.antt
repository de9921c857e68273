-- A new connection in memory has no table.
use Rattle.std.proofs.Common.{false, inl}
use Rattle.std.proofs.lemmas.Grind.{merely}
use Rattle.sqlite.specs.Held.{state}
use Rattle.sqlite.specs.Steps.{over_memory}
use Rattle.tb_register_sql.proofs.MemoryLemmas.{empty_is_unmade, shelf_is_table}
use Rattle.tb_register_sql.proofs.memory_shelf.MemoryShelf.open.Goals as goal

pub invariant_of-result : goal.invariant_of-result
invariant_of-result c =
    let connection = c.in_ok-connection.connection in
    let unmade = empty_is_unmade (state over_memory connection) c.in_ok-connection.ensures.empty in
    record { told = merely (inl unmade); in_order = shelf_is_table false (state over_memory connection) (inl unmade) }
