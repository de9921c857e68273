-- The rows that a database has of the register, before and behind statement 1.
use Rattle.std.proofs.Common.{◌≡◌, [], ap}
use Rattle.sqlite.specs.Schema.{Schema}
use Rattle.sqlite.specs.State.{State}
use Rattle.tb_register_sql.specs.Shelves.{IsMade, IsUnmade, rows_of, rows_under, shelf_rows}

-- an empty database has none
pub unmade_rows : (s : State) → IsUnmade s → shelf_rows s ≡ []
unmade_rows s unmade = ap (λ (schema : Schema). rows_under schema.tables s) unmade.schema

-- one with the table has those of the table
pub made_rows : (s : State) → IsMade s → shelf_rows s ≡ rows_of s
made_rows s made = ap (λ (schema : Schema). rows_under schema.tables s) made.schema
