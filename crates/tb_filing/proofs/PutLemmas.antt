-- What putting one row does.
use Rattle.std.proofs.Common.{◌≡◌, List, true, false, Option, Some, None, refl, sym, ap, ◌∙◌}
use Rattle.std.specs.Prelude.{Ok, Err, IfSome}
use Rattle.std.specs.Option.{option_map}
use Rattle.tb_register.specs.Rows.{Kept, kept}
use Rattle.tb_register.specs.Tables.{row_named, put_in}
use Rattle.tb_register.specs.Keepers.{KeeperState, Puts, Refuses}
use Rattle.tb_register.specs.declared.keeper.KeeperFault.{KeeperFault}
use Rattle.tb_register.specs.declared.keeper.KeeperFault.TheVariants as keeper
use Rattle.tb_register.specs.declared.row.Row.{Row}
use Rattle.tb_register.proofs.RegisterLemmas.{put_in_there}
use Rattle.tb_filing.specs.Filing.{HadOther, IsPutAs, of_keeper}
use Rattle.tb_filing.specs.declared.filing.FilingFault.TheVariants as fault
use Rattle.tb_filing.proofs.SameLemmas.{same_row}

-- a row is refused for want of memory where the keeper lacked it
pub memory_of : (why : KeeperFault) → of_keeper why ≡ fault.OutOfMemory → why ≡ keeper.OutOfMemory
memory_of keeper.Failed is = absurd (cc (is))
memory_of keeper.OutOfMemory is = refl

module _ (row : Row) (old new : KeeperState) where
  -- the keeper refused
  pub put-refused : (why : KeeperFault) → Refuses old new why → IsPutAs (kept row) (Err (of_keeper why)) old new
  put-refused keeper.Failed refuses = (refuses.table, refuses.rose refl)
  put-refused keeper.OutOfMemory refuses = refuses.table

  -- none of its auction was there
  pub put-none : Puts row old new None → IsPutAs (kept row) (Ok true) old new
  put-none puts = (puts.table, puts.no_fault, told old.table puts.found_is)
    where
      told : (was : Option (List Kept))
          → IfSome was (λ table. option_map kept None ≡ row_named row.auction table)
          → IfSome was (λ table. row_named row.auction table ≡ None)
      told None is = tt
      told (Some table) is = sym is

  -- where a row was there the table stays
  table-there : (found : Row) (was : Option (List Kept))
      → IfSome was (λ table. Some (kept found) ≡ row_named row.auction table)
      → option_map (put_in (kept row)) was ≡ was
  table-there found None is = refl
  table-there found (Some table) is = ap Some (put_in_there (kept row) table (kept found) (sym is))

  -- the row was there
  pub put-same : (found : Row)
      → Puts row old new (Some found)
      → kept found ≡ kept row
      → IsPutAs (kept row) (Ok false) old new
  put-same found puts same =
      (puts.table ∙ table-there found old.table puts.found_is, puts.no_fault, told old.table puts.found_is)
    where
      told : (was : Option (List Kept))
          → IfSome was (λ table. Some (kept found) ≡ row_named row.auction table)
          → IfSome was (λ table. row_named row.auction table ≡ Some (kept row))
      told None is = tt
      told (Some table) is = sym is ∙ ap Some same

  -- another was
  pub put-other : (found : Row)
      → Puts row old new (Some found)
      → ¬ (found ≡ row)
      → IsPutAs (kept row) (Err (fault.Differs row.auction)) old new
  put-other found puts differs =
      (refl, puts.table ∙ table-there found old.table puts.found_is, told old.table puts.found_is)
    where
      told : (was : Option (List Kept))
          → IfSome was (λ table. Some (kept found) ≡ row_named row.auction table)
          → IfSome was (HadOther row.auction (kept row))
      told None is = tt
      told (Some table) is =
          record { there = kept found; named = sym is; differs = λ same. differs (same_row found row same) }
