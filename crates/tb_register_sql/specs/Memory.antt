-- The table in a connection in memory.
use Rattle.std.specs.Prelude.{List, [], Option, Some, None}
use Rattle.sqlite.specs.Held.{state}
use Rattle.sqlite.specs.Steps.{over_memory}
use Rattle.tb_register.specs.Rows.{Kept}
use Rattle.tb_register_sql.specs.Shelves.{shelf_rows}
use Rattle.tb_register_sql.specs.declared.memory_shelf.MemoryShelf.{MemoryShelf}

-- the table that the connection stands for
abbrev pub shelf_table : MemoryShelf → List Kept
shelf_table memory = shelf_rows (state over_memory memory.shelf.connection)

-- no row before the connection is opened
abbrev pub kept_table : Option MemoryShelf → List Kept
kept_table None = []
kept_table (Some shelf) = shelf_table shelf
