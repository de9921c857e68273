-- How a statement that was run is answered.
use Rattle.std.specs.Prelude.{◌≡◌, ◌⊎◌, ◌↔◌, ℕ, List, Result, Ok, Err}
use Rattle.sqlite_disk.specs.Disk.{MoreFaults}
use Rattle.sqlite.specs.declared.error.Error.{Error}
use Rattle.sqlite.specs.declared.error.Error.TheVariants.{SqliteFailure}
use Rattle.sqlite.specs.declared.error.ErrorCode.TheVariants as code
use Rattle.sqlite.specs.Order.{Row}
use Rattle.sqlite.specs.State.{State, Executes, FailsToQuery}
use Rattle.tb_register.specs.declared.keeper.KeeperFault.{KeeperFault}
use Rattle.tb_register.specs.declared.keeper.KeeperFault.TheVariants as fault

-- want of memory is answered as such, and every other refusal as a failure
abbrev pub IsAnsweredAs : Error → KeeperFault → Type 0
IsAnsweredAs error why = (why ≡ fault.OutOfMemory) ↔ (error ≡ SqliteFailure code.OutOfMemory)

-- the text was executed with these values, and a refusal is answered so
abbrev pub Ran : List ℕ → Row → State → State → Result ℕ KeeperFault → Type 0
Ran text values old new (Ok changed) = Executes text values old new (Ok changed)
Ran text values old new (Err why) = (error : Error) × IsAnsweredAs error why × Executes text values old new (Err error)

-- the query was refused, and that is answered so
abbrev pub FailsToAnswer : List ℕ → Row → State → State → KeeperFault → Type 0
FailsToAnswer text values old new why = (error : Error) × IsAnsweredAs error why × FailsToQuery text values old new error

-- the call was refused since memory ran out, or since the store failed
abbrev pub LacksOrFails : State → State → KeeperFault → Type 0
LacksOrFails old new why = (why ≡ fault.OutOfMemory) ⊎ MoreFaults old.faults new.faults
