-- What is told behind a filing.
use Rattle.std.proofs.Common.{◌≡◌, ℕ, List, [], Option, Some, None, refl, sym, ap, subst, ◌∙◌, append-nil}
use Rattle.std.specs.Prelude.{Err, IfSome}
use Rattle.tb_link.specs.Counts.{Rose}
use Rattle.tb_terms.specs.declared.cusip.Cusip.{Cusip}
use Rattle.tb_message.specs.declared.message.Entry.{Entry}
use Rattle.tb_history.specs.Roster.{publications}
use Rattle.tb_register.specs.Rows.{Kept}
use Rattle.tb_register.specs.Keepers.{KeeperState}
use Rattle.tb_register.specs.declared.keeper.KeeperFault.{KeeperFault}
use Rattle.tb_register.specs.declared.keeper.KeeperFault.TheVariants as keeper
use Rattle.tb_filing.specs.Filing.{FilesAll, FilesSome, FilingEnds, of_keeper}
use Rattle.tb_filing.specs.Telling.{IsToldAs, TellingEnds, told_rows}
use Rattle.tb_filing.specs.Texts.{register_text}
use Rattle.tb_filing.specs.declared.filing.FilingFault.{FilingFault}
use Rattle.tb_filing.specs.declared.filing.FilingFault.TheVariants as fault
use Rattle.tb_filing.specs.declared.filing.Tally.{Tally}
use Rattle.tb_filing.proofs.FilingLemmas.{FilesAll-same}

module _ (bill : Option Cusip) (history : List Entry) where
  -- a filing that ended early ends the telling
  pub TellingEnds-filing : (why : FilingFault) (old new : KeeperState)
      → FilingEnds history (Err why) old new
      → TellingEnds bill history (Err why) old new
  TellingEnds-filing (fault.Differs name) old new ends = ends
  TellingEnds-filing fault.Failed old new ends = ends
  TellingEnds-filing fault.OutOfMemory old new ends = ends

  -- where all is filed the first ones are
  FilesSome-all : (tally : Tally) (old mid new : KeeperState)
      → FilesAll history (publications history) tally old mid
      → new.table ≡ mid.table
      → FilesSome history old new
  FilesSome-all tally old mid new files same = record {
    front = publications history;
    rest = [];
    are = sym (append-nil (publications history));
    tally = tally;
    files = FilesAll-same history (publications history) tally old mid new files same;
  }

  -- where the rows aren't given, all is filed
  pub TellingEnds-rows : (why : KeeperFault) (tally : Tally) (old mid new : KeeperState)
      → FilesAll history (publications history) tally old mid
      → mid.faults ≡ old.faults
      → new.table ≡ mid.table
      → (why ≡ keeper.Failed → Rose mid.faults new.faults)
      → TellingEnds bill history (Err (of_keeper why)) old new
  TellingEnds-rows keeper.Failed tally old mid new files faults same rose =
      (FilesSome-all tally old mid new files same, subst (λ (n : ℕ). Rose n new.faults) faults (rose refl))
  TellingEnds-rows keeper.OutOfMemory tally old mid new files faults same rose =
      FilesSome-all tally old mid new files same

  -- where there is no memory for the text, too
  pub TellingEnds-text : (tally : Tally) (old mid new : KeeperState)
      → FilesAll history (publications history) tally old mid
      → new.table ≡ mid.table
      → TellingEnds bill history (Err fault.OutOfMemory) old new
  TellingEnds-text tally old mid new files same = FilesSome-all tally old mid new files same

  -- all is filed and told
  pub IsToldAs-here : (tally : Tally) (rows : List Kept) (text : List ℕ) (old mid new : KeeperState)
      → FilesAll history (publications history) tally old mid
      → mid.faults ≡ old.faults
      → new.table ≡ mid.table
      → new.faults ≡ mid.faults
      → IfSome mid.table (λ table. rows ≡ told_rows bill table)
      → text ≡ register_text tally.added tally.present rows
      → IsToldAs bill history text old new
  IsToldAs-here tally rows text old mid new files filed same none are is = record {
    tally = tally;
    files = FilesAll-same history (publications history) tally old mid new files same;
    text_is = told new.table (subst (λ (t : Option (List Kept)). IfSome t (λ table. rows ≡ told_rows bill table))
        (sym same) are);
    no_fault = none ∙ filed;
  }
    where
      told : (now : Option (List Kept))
          → IfSome now (λ table. rows ≡ told_rows bill table)
          → IfSome now (λ table. text ≡ register_text tally.added tally.present (told_rows bill table))
      told None rows_are = tt
      told (Some table) rows_are = is ∙ ap (register_text tally.added tally.present) rows_are
