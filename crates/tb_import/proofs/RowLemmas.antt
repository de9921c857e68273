-- One row more.
use Rattle.std.proofs.Common.{◌≡◌, List, [], ◌∷◌, ◌++◌, refl}
use Rattle.std.specs.Prelude.{fold}
use Rattle.indexmap.specs.IndexSet.{insert_key}
use Rattle.tb_import.specs.declared.row.Row.{Row}
use Rattle.tb_import.specs.Rows.{Fields, AreRowsOf, IsRowOf, first_seen, same_row}

-- the rows of one record more
pub AreRowsOf-append : (records : List Fields) (rows : List Row) (fields : Fields) (row : Row)
    → AreRowsOf records rows
    → IsRowOf fields row
    → AreRowsOf (records ++ fields ∷ []) (rows ++ row ∷ [])
AreRowsOf-append [] [] fields row are is = (is, tt)
AreRowsOf-append [] (r ∷ rows) fields row are is = absurd are
AreRowsOf-append (f ∷ records) [] fields row are is = absurd are
AreRowsOf-append (f ∷ records) (r ∷ rows) fields row are is = (are.0, AreRowsOf-append records rows fields row are.1 is)

-- one row more is kept where it is the first of its kind
kept-append : (kept rows : List Row) (row : Row)
    → fold (λ k r. insert_key same_row k r) kept (rows ++ row ∷ [])
    ≡ insert_key same_row (fold (λ k r. insert_key same_row k r) kept rows) row
kept-append kept [] row = refl
kept-append kept (r ∷ rows) row = kept-append (insert_key same_row kept r) rows row

-- so it is from the first row on
pub first_seen-append : (rows : List Row) (row : Row)
    → first_seen (rows ++ row ∷ []) ≡ insert_key same_row (first_seen rows) row
first_seen-append rows row = kept-append [] rows row
