-- What contracts see of a keeper of the register, and what each call does to it.
use Rattle.std.specs.Prelude.{◌≡◌, ℕ, List, map, Option, IfSome}
use Rattle.std.specs.Option.{option_map}
use Rattle.tb_link.specs.Counts.{Rose, NeverFalls, counted}
use Rattle.tb_register.specs.declared.row.Row.{Row}
use Rattle.tb_register.specs.declared.keeper.KeeperFault.{KeeperFault}
use Rattle.tb_register.specs.declared.keeper.KeeperFault.TheVariants.{Failed, OutOfMemory}
use Rattle.tb_register.specs.Rows.{Kept, kept}
use Rattle.tb_register.specs.Tables.{IsTable, row_named, put_in, of_cusip}

-- its table, where it tells that, and its count of faults
pub record KeeperState : Type 0 where
  pub table : Option (List Kept)
  pub faults : ℕ

-- a row is put: the answer is the row of its auction that was there, which stays
pub record Puts (row : Row) (old new : KeeperState) (found : Option Row) : Type 0 where
  pub found_is : IfSome old.table (λ table. option_map kept found ≡ row_named row.auction table)
  pub table : new.table ≡ option_map (put_in (kept row)) old.table
  pub no_fault : new.faults ≡ old.faults

-- the rows of a bill are given, and the table stays
pub record Gives (cusip : List ℕ) (old new : KeeperState) (rows : List Row) : Type 0 where
  pub rows_are : IfSome old.table (λ table. map kept rows ≡ of_cusip cusip table)
  pub table : new.table ≡ old.table
  pub no_fault : new.faults ≡ old.faults

-- a call is refused: the table stays, and where the keeper failed the count rose
pub record Refuses (old new : KeeperState) (fault : KeeperFault) : Type 0 where
  pub table : new.table ≡ old.table
  pub rose : fault ≡ Failed → Rose old.faults new.faults
  pub count : NeverFalls old.faults new.faults

-- where memory ran out no fault was counted
abbrev pub LacksMemory : ℕ → ℕ → KeeperFault → Type 0
LacksMemory old new fault = fault ≡ OutOfMemory → new ≡ old

-- a refused call counts one fault where the keeper failed, and none where memory ran out
pub record CountsFault (old new : ℕ) (fault : KeeperFault) : Type 0 where
  pub failed : fault ≡ Failed → new ≡ counted old
  pub lacked : LacksMemory old new fault

-- a table that is told is in order
abbrev pub IsInOrder : KeeperState → Type 0
IsInOrder keeper = IfSome keeper.table IsTable
