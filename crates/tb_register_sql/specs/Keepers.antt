-- The keepers over connections, as contracts see them.
use Rattle.std.specs.Prelude.{ℕ, None, Some}
use Rattle.tb_register.specs.Keepers.{KeeperState}
use Rattle.tb_register_sql.specs.Memory.{kept_table}
use Rattle.tb_register_sql.specs.declared.memory_sql_keeper.MemorySqlKeeper.{MemorySqlKeeper}

-- the one over a connection that is handed in tells no table
abbrev pub untold : ℕ → KeeperState
untold faults = record { table = None; faults = faults }

-- the one in memory tells its table
abbrev pub memory_sql_keeper : MemorySqlKeeper → KeeperState
memory_sql_keeper keeper = record { table = Some (kept_table keeper.kept); faults = keeper.refusals.faults.count }
