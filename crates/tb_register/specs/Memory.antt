-- The keeper in memory, as contracts see it.
use Rattle.std.specs.Prelude.{◌≡◌, Some, map}
use Rattle.tb_link.specs.Counts.{counted}
use Rattle.tb_register.specs.Rows.{kept}
use Rattle.tb_register.specs.Keepers.{KeeperState}
use Rattle.tb_register.specs.declared.memory_keeper.MemoryKeeper.{MemoryKeeper}

-- it tells its table
abbrev pub memory_keeper : MemoryKeeper → KeeperState
memory_keeper k = record { table = Some (map kept k.rows.items); faults = k.faults.count }

-- what any call does: it is counted, and the list of failing calls stays
pub record CountsCall (old new : MemoryKeeper) : Type 0 where
  pub calls : new.calls ≡ counted old.calls
  pub fails : new.fails ≡ old.fails
