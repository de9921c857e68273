-- The rows of the SQL table, and the table of the register that they stand for.
use Rattle.std.proofs.Common.{◌≡◌, ℕ, List, [], ◌∷◌, map, filter, slice_get, length, bytes_eq, Bool, true, false, ◌||◌}
use Rattle.std.proofs.Common.{if◌then◌else◌, Option, Some, None, refl, sym, ap, subst, ◌∙◌, arith}
use Rattle.std.specs.List.Sorted.{IsPermutation}
use Rattle.std.specs.Option.{option_to_list}
use Rattle.std.specs.Ordering.{is_eq, match_ordering}
use Rattle.std.specs.declared.cmp.Ordering.{Ordering}
use Rattle.std.specs.declared.cmp.Ordering.TheVariants.{Less, Equal, Greater}
use Rattle.std.proofs.lemmas.List.Sorted.{IsPermutation-map, length_permutation}
use Rattle.std.proofs.lemmas.Map.Text.{is_eq-slice_cmp}
use Rattle.sqlite.specs.declared.types.Value.TheVariants.{Text}
use Rattle.sqlite.specs.Order.{Row, column, value_cmp}
use Rattle.sqlite.specs.Tree.{put_row, rowid}
use Rattle.sqlite.specs.Edit.{is_taken}
use Rattle.sqlite.proofs.Callers.{one_permutation}
use Rattle.sqlite_value.proofs.OrderLemmas.{value_cmp-Text}
use Rattle.tb_register.specs.Rows.{Kept, KeptFigures}
use Rattle.tb_register.specs.Tables.{IsTable, row_named, added}
use Rattle.tb_register.proofs.OrderLemmas.{same_name, names_differ}
use Rattle.tb_register.proofs.TableLemmas.{IsFree, free_added, named_added, added_swap, table_added}
use Rattle.tb_register_sql.specs.Shelves.{is_at, cells_of, kept_from, shown, kept_in, table_of, AreKept}

-- a SELECT shows of these rows those with the text in the column, in some order
abbrev pub Shows : ℕ → List ℕ → List Row → List Row → Type 0
Shows at text rows answer = IsPermutation (map shown (filter (is_at at text) rows)) answer

-- a row reads back as it is
pub kept_cells : (row : Kept) → kept_from (cells_of row) ≡ row
kept_cells row = by_figures row.figures
  where
    by_figures : (figures : Option KeptFigures)
        → kept_from (cells_of (record row { figures = figures })) ≡ record row { figures = figures }
    by_figures None = refl
    by_figures (Some figures) = refl

or_false : (one other : Bool) → one || other ≡ false → (one ≡ false) × (other ≡ false)
or_false true other neither = absurd (let fails = neither in cc)
or_false false other neither = (refl, neither)

-- the table is in order
pub table_of_is : (rows : List Row) → AreKept rows → IsTable (table_of rows)
table_of_is [] are = refl
table_of_is (row ∷ rows) are = table_added (kept_in row) (table_of rows) are.1 (table_of_is rows are.2)

-- with the new row the SQL table stands for the table with its row added, and its rows are the register's
abbrev pub Joins : Row → List Row → List Row → Type 0
Joins new rows after = (table_of after ≡ added (kept_in new) (table_of rows)) × AreKept after

-- a new row of a free name joins the table
pub put_kept : (new : Row) (rows : List Row) → is_taken rows new ≡ false
    → AreKept rows
    → cells_of (kept_in new) ≡ shown new
    → row_named (kept_in new).auction (table_of rows) ≡ None
    → Joins new rows (put_row new rows)
put_kept new [] untaken kept cells free = (refl, (cells, refl, tt))
put_kept new (first ∷ rows) untaken kept cells free =
    let apart = or_false (is_eq (value_cmp (rowid first) (rowid new))) (is_taken rows new) untaken in
    let others = free_added (kept_in new).auction (kept_in first) (table_of rows) kept.1 free in
    by_place (value_cmp (rowid first) (rowid new)) apart.0 others (put_kept new rows apart.1 kept.2 cells others.1)
  where
    by_place : (order : Ordering) → is_eq order ≡ false
        → (bytes_eq (kept_in first).auction (kept_in new).auction ≡ false)
        × IsFree (kept_in new).auction (table_of rows)
        → Joins new rows (put_row new rows)
        → Joins new (first ∷ rows) (match_ordering order (first ∷ put_row new rows) (new ∷ rows) (new ∷ first ∷ rows))
    by_place Less differ others more =
        let named : row_named (kept_in first).auction (added (kept_in new) (table_of rows)) ≡ None =
        named_added (kept_in first).auction (kept_in new) (table_of rows) others.1
        ∙ rw (names_differ _ _ others.0) kept.1 in (
          ap (added (kept_in first)) more.0 ∙ added_swap (kept_in first) (kept_in new) (table_of rows) others.0,
          (kept.0, ap (row_named (kept_in first).auction) more.0 ∙ named, more.1),
        )
    by_place Equal differ others more = absurd (let same = differ in cc)
    by_place Greater differ others more = (refl, (cells, free, kept))

-- the first column of a row is its name
name_at : (name : List ℕ) (row : Row) → cells_of (kept_in row) ≡ shown row
    → is_at 1 name row ≡ bytes_eq (kept_in row).auction name
name_at name row cells =
    let first : Text (kept_in row).auction ≡ column row 1 = ap (λ values. column values 0) cells in
    ap (λ value. is_eq (value_cmp value (Text name))) (sym first)
    ∙ ap is_eq (value_cmp-Text (kept_in row).auction name)
    ∙ is_eq-slice_cmp (kept_in row).auction name

-- the rows of the SQL table with the name, as the register has them
abbrev rows_at : List ℕ → List Row → List Kept
rows_at name rows = map kept_in (filter (is_at 1 name) rows)

-- they are the one of the table, or none
named_rows : (name : List ℕ) (rows : List Row) → AreKept rows
    → rows_at name rows ≡ option_to_list (row_named name (table_of rows))
named_rows name [] kept = refl
named_rows name (row ∷ rows) kept =
    by_test (bytes_eq (kept_in row).auction name) refl (name_at name row kept.0)
    (named_added name (kept_in row) (table_of rows) kept.1) (named_rows name rows kept.2)
  where
    by_test : (test : Bool) → bytes_eq (kept_in row).auction name ≡ test
        → is_at 1 name row ≡ bytes_eq (kept_in row).auction name
        → row_named name (added (kept_in row) (table_of rows))
        ≡ (if bytes_eq (kept_in row).auction name then Some (kept_in row) else row_named name (table_of rows))
        → rows_at name rows ≡ option_to_list (row_named name (table_of rows))
        → map kept_in (if is_at 1 name row then row ∷ filter (is_at 1 name) rows else filter (is_at 1 name) rows)
        ≡ option_to_list (row_named name (added (kept_in row) (table_of rows)))
    by_test true is at named more =
        let none : row_named name (table_of rows) ≡ None =
        subst (λ named. row_named named (table_of rows) ≡ None) (same_name _ _ is) kept.1 in
        rw (at, named, is) (ap (λ later. kept_in row ∷ later) (more ∙ ap option_to_list none))
    by_test false is at named more = rw (at, named, is) more

-- the first of a row or none is that row or none
pub first_listed : (found : Option Kept) → slice_get (option_to_list found) 0 ≡ found
first_listed None = refl
first_listed (Some row) = refl

-- an empty list has one order
alone : {X : Type 0} (one other : List X) → IsPermutation one other → one ≡ [] → other ≡ []
alone one [] moved empty = refl
alone one (first ∷ rest) moved empty =
    absurd (omega (arith, length_permutation one (first ∷ rest) moved, ap length empty))

-- rows that are shown are read as they are kept
pub kept_shown : (rows : List Row) → map kept_from (map shown rows) ≡ map kept_in rows
kept_shown [] = refl
kept_shown (row ∷ rows) = ap (λ later. kept_in row ∷ later) (kept_shown rows)

-- statement 3 answers the row of that name, or none
pub found_kept : (name : List ℕ) (rows answer : List Row) → AreKept rows
    → Shows 1 name rows answer
    → map kept_from answer ≡ option_to_list (row_named name (table_of rows))
found_kept name rows answer kept shows =
    let are = kept_shown (filter (is_at 1 name) rows) ∙ named_rows name rows kept in
    by_found (row_named name (table_of rows))
    (subst (λ read. IsPermutation read (map kept_from answer)) are (IsPermutation-map kept_from _ answer shows))
  where
    by_found : (found : Option Kept) → IsPermutation (option_to_list found) (map kept_from answer)
        → map kept_from answer ≡ option_to_list found
    by_found None moved = alone [] _ moved refl
    by_found (Some row) moved = one_permutation row _ moved
