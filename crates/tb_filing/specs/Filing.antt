-- What filing the published auctions does to the register.
use Rattle.std.specs.Prelude.{◌≡◌, ◌≢◌, ℕ, ◌+◌, List, ◌∷◌, ◌++◌, length, Bool, true, false, Some, None}
use Rattle.std.specs.Prelude.{Result, Ok, Err, IfSome}
use Rattle.std.specs.List.{AllByRecursion}
use Rattle.std.specs.Option.{option_map}
use Rattle.tb_link.specs.Counts.{Rose}
use Rattle.tb_message.specs.declared.message.Entry.{Entry}
use Rattle.tb_history.specs.Roster.{publications}
use Rattle.tb_register.specs.Rows.{Kept}
use Rattle.tb_register.specs.Tables.{row_named, registered, put_in}
use Rattle.tb_register.specs.Keepers.{KeeperState}
use Rattle.tb_register.specs.declared.keeper.KeeperFault.{KeeperFault}
use Rattle.tb_register.specs.declared.keeper.KeeperFault.TheVariants as keeper
use Rattle.tb_filing.specs.declared.filing.FilingFault.{FilingFault}
use Rattle.tb_filing.specs.declared.filing.FilingFault.TheVariants as fault
use Rattle.tb_filing.specs.declared.filing.Tally.{Tally}
use Rattle.tb_filing.specs.Rows.{AreRowsOf, IsRowOf}

-- one row more, which was added or was there
abbrev pub counted : Bool → Tally → Tally
counted true tally = record { added = tally.added + 1; present = tally.present }
counted false tally = record { added = tally.added; present = tally.present + 1 }

-- the fault where the keeper's is this
abbrev pub of_keeper : KeeperFault → FilingFault
of_keeper keeper.Failed = fault.Failed
of_keeper keeper.OutOfMemory = fault.OutOfMemory

-- a row of the row's auction that was there is this row
abbrev pub Agrees : List Kept → Kept → Type 0
Agrees table row = (there : Kept) → row_named row.auction table ≡ Some there → there ≡ row

-- Rows were put into a table, one after the other: none that was there differed, each is there now, and so many were
-- added.
pub record Files (added : ℕ) (rows old new : List Kept) : Type 0 where
  pub is : new ≡ registered old rows
  pub agree : AllByRecursion (Agrees old) rows
  pub there : AllByRecursion (λ row. row_named row.auction new ≡ Some row) rows
  pub more : length new ≡ length old + added

-- the row of each of these auctions is filed, where the keeper tells its table
pub record FilesAll (history : List Entry) (auctions : List (List ℕ)) (tally : Tally) (old new : KeeperState) : Type 0
  where
    pub rows : List Kept
    pub are : AreRowsOf history auctions rows
    pub table : new.table ≡ option_map (λ table. registered table rows) old.table
    pub files : IfSome old.table (λ table. Files tally.added rows table (registered table rows))
    pub all : tally.added + tally.present ≡ length auctions

-- the rows of the first published auctions are filed, and of no others
pub record FilesSome (history : List Entry) (old new : KeeperState) : Type 0 where
  pub front : List (List ℕ)
  pub rest : List (List ℕ)
  pub are : publications history ≡ front ++ rest
  pub tally : Tally
  pub files : FilesAll history front tally old new

-- the table had another row of this auction
pub record HadOther (name : List ℕ) (row : Kept) (table : List Kept) : Type 0 where
  pub there : Kept
  pub named : row_named name table ≡ Some there
  pub differs : there ≢ row

-- this published auction is the first of which another row was there; those before it are filed, and no others
pub record Differs (name : List ℕ) (history : List Entry) (old new : KeeperState) : Type 0 where
  pub front : List (List ℕ)
  pub rest : List (List ℕ)
  pub are : publications history ≡ front ++ name ∷ rest
  pub tally : Tally
  pub files : FilesAll history front tally old new
  pub row : Kept
  pub row_is : IsRowOf history name row
  pub other : IfSome old.table (HadOther name row)

-- where memory ran out the keeper counted no fault
abbrev pub LacksMemory : KeeperState → KeeperState → FilingFault → Type 0
LacksMemory old new why = why ≡ fault.OutOfMemory → new.faults ≡ old.faults

-- how filing ends
abbrev pub FilingEnds : List Entry → Result Tally FilingFault → KeeperState → KeeperState → Type 0
FilingEnds history (Ok tally) old new =
    FilesAll history (publications history) tally old new × (new.faults ≡ old.faults)
FilingEnds history (Err (fault.Differs name)) old new = Differs name history old new
FilingEnds history (Err fault.Failed) old new = FilesSome history old new × Rose old.faults new.faults
FilingEnds history (Err fault.OutOfMemory) old new = FilesSome history old new

-- a row was put: it is added, or was there, or another was, or the keeper refused
abbrev pub IsPutAs : Kept → Result Bool FilingFault → KeeperState → KeeperState → Type 0
IsPutAs row (Ok true) old new =
    (new.table ≡ option_map (put_in row) old.table) × (new.faults ≡ old.faults)
    × IfSome old.table (λ table. row_named row.auction table ≡ None)
IsPutAs row (Ok false) old new =
    (new.table ≡ old.table) × (new.faults ≡ old.faults)
    × IfSome old.table (λ table. row_named row.auction table ≡ Some row)
IsPutAs row (Err (fault.Differs name)) old new =
    (name ≡ row.auction) × (new.table ≡ old.table) × IfSome old.table (HadOther row.auction row)
IsPutAs row (Err fault.Failed) old new = (new.table ≡ old.table) × Rose old.faults new.faults
IsPutAs row (Err fault.OutOfMemory) old new = new.table ≡ old.table
