-- The rows of a bill: what statement 4 shows, and what the register has of it.
use Rattle.std.proofs.Common.{◌≡◌, ℕ, List, [], ◌∷◌, map, filter, bytes_eq, Bool, true, false, if◌then◌else◌}
use Rattle.std.proofs.Common.{Result, Ok, Err, IfOk, Vec, Global, sym, ap, subst, ◌∙◌}
use Rattle.std.specs.List.Sorted.{IsPermutation, IsSortedByKey, IsSortedByKeyClosure}
use Rattle.std.specs.Prelude.{OnOk}
use Rattle.std.specs.Fn.{Called}
use denote.Param.Members.{Mut}
use denote.Ref.{Bor}
use Rattle.std.specs.Ordering.{nat_cmp, is_eq}
use Rattle.std.specs.Cmp.Lexicographic.{slice_cmp}
use Rattle.std.proofs.lemmas.List.Sorted.{IsPermutation-refl, IsPermutation-cons, IsPermutation-trans}
use Rattle.std.proofs.lemmas.List.Sorted.{IsPermutation-sym, IsPermutation-map, answers_always}
use Rattle.std.proofs.lemmas.Map.Text.{is_eq-slice_cmp}
use Rattle.sqlite.specs.declared.types.Value.TheVariants.{Text}
use Rattle.sqlite.specs.Order.{Row as Stored, column, value_cmp}
use Rattle.sqlite_value.proofs.OrderLemmas.{value_cmp-Text}
use Rattle.tb_register.specs.declared.row.Row.{Row}
use Rattle.tb_register.specs.Rows.{Kept, kept}
use Rattle.tb_register.specs.Tables.{of_cusip}
use Rattle.tb_register.proofs.TableLemmas.{table_of_cusip}
use Rattle.tb_register.proofs.MemberLemmas.{of_cusip_added}
use Rattle.tb_register.proofs.SortLemmas.{sorted_is_table}
use Rattle.tb_register_sql.specs.Shelves.{is_at, cells_of, kept_from, shown, kept_in, table_of, AreKept}
use Rattle.tb_register_sql.proofs.TableLemmas.{Shows, kept_shown, table_of_is}

-- the second column of a row is its CUSIP
cusip_at : (cusip : List ℕ) (row : Stored) → cells_of (kept_in row) ≡ shown row
    → is_at 2 cusip row ≡ bytes_eq (kept_in row).cusip cusip
cusip_at cusip row cells =
    let second : Text (kept_in row).cusip ≡ column row 2 = ap (λ values. column values 1) cells in
    ap (λ value. is_eq (value_cmp value (Text cusip))) (sym second)
    ∙ ap is_eq (value_cmp-Text (kept_in row).cusip cusip)
    ∙ is_eq-slice_cmp (kept_in row).cusip cusip

-- the rows of a bill in the SQL table, as the register has them
abbrev rows_with : List ℕ → List Stored → List Kept
rows_with cusip rows = map kept_in (filter (is_at 2 cusip) rows)

-- they are those in the register's table
bill_rows : (cusip : List ℕ) (rows : List Stored) → AreKept rows
    → IsPermutation (of_cusip cusip (table_of rows)) (rows_with cusip rows)
bill_rows cusip [] are = IsPermutation-refl []
bill_rows cusip (row ∷ rows) are =
    IsPermutation-trans _ _ _
    (IsPermutation-sym _ _ (of_cusip_added cusip (kept_in row) (table_of rows)))
    (by_test (bytes_eq (kept_in row).cusip cusip) (cusip_at cusip row are.0) (bill_rows cusip rows are.2))
  where
    by_test : (test : Bool) → is_at 2 cusip row ≡ test
        → IsPermutation (of_cusip cusip (table_of rows)) (rows_with cusip rows)
        → IsPermutation
        (if test then kept_in row ∷ of_cusip cusip (table_of rows) else of_cusip cusip (table_of rows))
        (rows_with cusip (row ∷ rows))
    by_test true at more = rw at (IsPermutation-cons (kept_in row) _ _ more)
    by_test false at more = rw at more

-- what statement 4 answers, read and sorted, are the rows of the bill in order
pub given_kept : (cusip : List ℕ) (rows answer : List Stored) (given : List Row) → AreKept rows
    → Shows 2 cusip rows answer
    → IsPermutation (map kept_from answer) (map kept given)
    → IsSortedByKey (λ (row : Row). row.auction) (slice_cmp nat_cmp) given
    → map kept given ≡ of_cusip cusip (table_of rows)
given_kept cusip rows answer given are shows reads sorted =
    let read = IsPermutation-map kept_from (map shown (filter (is_at 2 cusip) rows)) answer shows in
    let seen : IsPermutation (rows_with cusip rows) (map kept_from answer) =
    subst (λ from. IsPermutation from (map kept_from answer)) (kept_shown (filter (is_at 2 cusip) rows)) read in
    let moved : IsPermutation (of_cusip cusip (table_of rows)) (map kept given) =
    IsPermutation-trans _ _ _ (bill_rows cusip rows are) (IsPermutation-trans _ _ _ seen reads) in
    let table = table_of_cusip cusip (table_of rows) (table_of_is rows are) in
    sorted_is_table (of_cusip cusip (table_of rows)) given table moved sorted

-- the same of an answer that may be a refusal
pub given_if_kept : {Fault : Type 0} (cusip : List ℕ) (rows answer : List Stored)
    (given : Result (Vec Row Global) Fault) → AreKept rows
    → Shows 2 cusip rows answer
    → IfOk given (λ given. IsPermutation (map kept_from answer) (map kept given.items))
    → IfOk given (λ given. IsSortedByKey (λ (row : Row). row.auction) (slice_cmp nat_cmp) given.items)
    → IfOk given (λ given. map kept given.items ≡ of_cusip cusip (table_of rows))
given_if_kept cusip rows answer (Ok given) are shows reads sorted =
    given_kept cusip rows answer given.items are shows reads sorted
given_if_kept cusip rows answer (Err fault) are shows reads sorted = tt

-- what std's sort gives its closure: a row
abbrev Seen : Type 0
Seen = Bor Row × Unit {0}

-- std's sort by the names, whose closure gives each row's
pub sorted_by_names : {Closure Fault : Type 0} (calls : Mut Closure Seen (List ℕ)) (closure : Closure)
    (result : Result (Unit {0}) Fault) (rows : List Row)
    → OnOk result (IsSortedByKeyClosure calls (slice_cmp nat_cmp) closure rows)
    → ((one : Closure) (seen : Seen) (name : List ℕ) (next : Closure) → Called calls one seen name next
    → name ≡ seen.0.now.auction)
    → OnOk result (IsSortedByKey (λ (row : Row). row.auction) (slice_cmp nat_cmp) rows)
sorted_by_names calls closure (Ok done) rows sorted names =
    sorted (λ (row : Row). row.auction) (answers_always calls (λ seen name. name ≡ seen.0.now.auction) closure names)
sorted_by_names calls closure (Err fault) rows sorted names = tt
