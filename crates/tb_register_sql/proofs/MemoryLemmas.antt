-- Memory is always open and never lies, and what it keeps is a table.
use Rattle.std.proofs.Common.{Bool, true, false, inl, inr, refl, sym}
use Rattle.sqlite.specs.State.{State}
use Rattle.sqlite.specs.Steps.{over_memory, IsEmpty}
use Rattle.sqlite.proofs.Callers.{memory_is_clean}
use Rattle.tb_register.specs.Tables.{IsTable}
use Rattle.tb_register_sql.specs.Shelves.{IsMade, IsSure, IsUnmade, IsShelf, shelf_rows}
use Rattle.tb_register_sql.proofs.ShelfLemmas.{made_rows, unmade_rows}
use Rattle.tb_register_sql.proofs.TableLemmas.{table_of_is}

-- a connection in memory is open, and what it reads is what was written
pub memory_is_sure : IsSure over_memory
memory_is_sure c = (memory_is_clean c, refl)

-- a new one has no table
pub empty_is_unmade : (s : State) → IsEmpty s → IsUnmade s
empty_is_unmade s h =
    record { schema = h.2; settled = record { committed = sym h.0.clean; autocommit = h.0.autocommit } }

-- a table that is made is in order
made_is_table : (s : State) → IsMade s → IsTable (shelf_rows s)
made_is_table s made = rw (made_rows s made) (table_of_is (s.now.trees 0) made.rows)

-- what a connection keeps is in order
pub shelf_is_table : (is_made : Bool) (s : State) → IsShelf is_made s → IsTable (shelf_rows s)
shelf_is_table true s made = made_is_table s made
shelf_is_table false s (inl unmade) = rw (unmade_rows s unmade) refl
shelf_is_table false s (inr made) = made_is_table s made
