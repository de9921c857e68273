-- What is told of the register behind a filing.
use Rattle.std.specs.Prelude.{◌≡◌, ℕ, List, [], Option, Some, None, Result, Ok, Err, IfSome}
use Rattle.std.specs.Global.{Vec}
use Rattle.tb_link.specs.Counts.{Rose}
use Rattle.tb_terms.specs.declared.cusip.Cusip.{Cusip}
use Rattle.tb_message.specs.declared.message.Entry.{Entry}
use Rattle.tb_history.specs.Roster.{publications}
use Rattle.tb_register.specs.Rows.{Kept}
use Rattle.tb_register.specs.Tables.{of_cusip}
use Rattle.tb_register.specs.Keepers.{KeeperState}
use Rattle.tb_filing.specs.declared.filing.FilingFault.{FilingFault}
use Rattle.tb_filing.specs.declared.filing.FilingFault.TheVariants as fault
use Rattle.tb_filing.specs.declared.filing.Tally.{Tally}
use Rattle.tb_filing.specs.Filing.{Differs, FilesAll, FilesSome}
use Rattle.tb_filing.specs.Texts.{register_text}

-- the rows that are told of a table: those of the bill, where one is named
abbrev pub told_rows : Option Cusip → List Kept → List Kept
told_rows None table = []
told_rows (Some bill) table = of_cusip bill.bytes table

-- all published auctions are filed, this is the text of it, where the keeper tells its table, and no fault of the keeper
-- was passed over
pub record IsToldAs (bill : Option Cusip) (history : List Entry) (text : List ℕ) (old new : KeeperState) : Type 0 where
  pub tally : Tally
  pub files : FilesAll history (publications history) tally old new
  pub text_is : IfSome new.table (λ table. text ≡ register_text tally.added tally.present (told_rows bill table))
  pub no_fault : new.faults ≡ old.faults

-- how filing and telling ends
abbrev pub TellingEnds : Option Cusip → List Entry → Result (Vec ℕ) FilingFault → KeeperState → KeeperState → Type 0
TellingEnds bill history (Ok text) old new = IsToldAs bill history text.items old new
TellingEnds bill history (Err (fault.Differs name)) old new = Differs name history old new
TellingEnds bill history (Err fault.Failed) old new = FilesSome history old new × Rose old.faults new.faults
TellingEnds bill history (Err fault.OutOfMemory) old new = FilesSome history old new
