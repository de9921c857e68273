-- What statements 2, 3 and 4 leave, by their results.
use Rattle.std.proofs.Common.{◌≡◌, ℕ, List, Option, Some, None, Result, Ok, Err, IfOk, OnOk, refl, sym, ap, subst, ◌∙◌}
use Rattle.std.specs.Prelude.{IsTrue, OnErr, IfErr}
use Rattle.tb_register.specs.declared.keeper.KeeperFault.{KeeperFault}
use Rattle.sqlite.specs.Values.{bound_value}
use Rattle.sqlite.specs.Order.{Row}
use Rattle.sqlite.specs.Effect.{Database}
use Rattle.sqlite.specs.Listing.{understood}
use Rattle.sqlite.specs.State.{State, Shown}
use Rattle.tb_register_sql.specs.Statements.{Ran, FailsToAnswer}
use Rattle.sqlite.proofs.Callers.{IsPlain}
use Rattle.tb_register.specs.Rows.{Kept, KeptFigures}
use Rattle.tb_register.specs.Tables.{row_named, added}
use Rattle.tb_register_sql.specs.Auctions.{insert_text, find_text, of_cusip_text}
use Rattle.tb_register_sql.specs.Shelves.{cells_of, figure_of, table_of, rows_of, AreKept, IsMade, StaysMade, Adds}
use Rattle.tb_register_sql.proofs.TextLemmas.{find_plain, of_cusip_plain}
use Rattle.tb_register_sql.proofs.EffectLemmas.{insert_writes, adds, next_row, write_settles}
use Rattle.tb_register_sql.proofs.TableLemmas.{kept_cells, put_kept}
use Rattle.tb_register_sql.proofs.RefusalLemmas.{Stays, refused_stays, unanswered_stays, answered_stays}

-- statement 2 adds a row whose name none has
pub row_added : (old new : State) (row : Kept) (result : Result ℕ KeeperFault) → IsMade old
    → row_named row.auction (rows_of old) ≡ None
    → Ran insert_text (cells_of row) old new result
    → OnOk result (Adds row old new)
row_added old new row (Err why) was free runs = tt
row_added old new row (Ok count) was free runs =
    let rows = old.now.trees 0 in
    let effect = adds old new row count was.schema runs in
    let put = put_kept (next_row rows row) rows effect.0 was.rows (ap cells_of (kept_cells row)) free in
    record {
      made = record {
        schema = effect.1;
        rows = subst AreKept (sym effect.2) put.1;
        settled = write_settles old new _ _ _ count was.settled (insert_writes old new _ count was.schema runs);
      };
      rows = ap table_of effect.2 ∙ put.0 ∙ ap (λ new. added new (rows_of old)) (kept_cells row);
    }

-- where the database stays, so does the table
pub stays_made : (old new : State) → IsMade old → Stays old new → StaysMade old new
stays_made old new was stays =
    record {
      made = record {
        schema = ap (λ (db : Database). db.schema) stays.0 ∙ was.schema;
        rows = subst (λ (db : Database). AreKept (db.trees 0)) (sym stays.0) was.rows;
        settled = stays.1;
      };
      rows = ap (λ (db : Database). table_of (db.trees 0)) stays.0;
    }

-- statement 2 leaves the table where it is refused
pub insert_refused : (old new : State) (params : Row) (result : Result ℕ KeeperFault) → IsMade old
    → IsTrue new.is_open
    → Ran insert_text params old new result
    → OnErr result (StaysMade old new)
insert_refused old new params (Ok count) was is_open runs = tt
insert_refused old new params (Err why) was is_open runs =
    stays_made old new was (refused_stays old new insert_text params runs.0 was.settled is_open runs.2)

-- a query that is answered, or isn't, leaves the table
pub query_stays : (old new : State) (sql : List ℕ) (params : Row) {Rows : Type 0} (items : Rows → List Row)
    (result : Result Rows KeeperFault) → IsMade old
    → IsTrue new.is_open
    → IsPlain (understood old.now.schema sql)
    → IfOk result (λ rows. Shown sql params old new (items rows))
    → IfErr result (FailsToAnswer sql params old new)
    → StaysMade old new
query_stays old new sql params items (Ok rows) was is_open plain shown fails =
    stays_made old new was (answered_stays old new sql params (items rows) plain was.settled shown)
query_stays old new sql params items (Err why) was is_open plain shown fails =
    stays_made old new was (unanswered_stays old new sql params fails.0 was.settled is_open fails.2)

-- statement 3 is such a query
pub find_is_plain : (state : State) → IsMade state → IsPlain (understood state.now.schema find_text)
find_is_plain state was = subst (λ schema. IsPlain (understood schema find_text)) (sym was.schema) find_plain

-- and so is statement 4
pub of_cusip_is_plain : (state : State) → IsMade state → IsPlain (understood state.now.schema of_cusip_text)
of_cusip_is_plain state was =
    subst (λ schema. IsPlain (understood schema of_cusip_text)) (sym was.schema) of_cusip_plain

-- a figure is a parameter as it is
pub bound_figure : (which : KeptFigures → ℕ) (figures : Option KeptFigures)
    → bound_value (figure_of which figures) ≡ figure_of which figures
bound_figure which None = refl
bound_figure which (Some figures) = refl
