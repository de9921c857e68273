-- What adding a row makes of a table.
use Rattle.std.proofs.Common.{◌≡◌, ℕ, List, [], ◌∷◌, Bool, true, false, not, Option, Some, None}
use Rattle.std.proofs.Common.{if◌then◌else◌, bytes_eq, refl, sym, ap, subst, ◌∙◌}
use Rattle.std.specs.List.{list_all}
use Rattle.tb_register.specs.Rows.{Kept}
use Rattle.tb_register.specs.Tables.{is_before, IsTable, row_named, added, put_where, put_in, of_cusip}
use Rattle.tb_register.proofs.OrderLemmas.{before_then, before_back, both_tests, not_untrue, true_or_false}
use Rattle.tb_register.proofs.OrderLemmas.{same_name}

-- no row has this name
abbrev pub IsFree : List ℕ → List Kept → Type 0
IsFree name rows = row_named name rows ≡ None

-- a look-up that finds nothing passed the row, and found nothing behind it
free_by : (name : List ℕ) (row : Kept) (rest : Option Kept) (test : Bool) → bytes_eq row.auction name ≡ test
    → (if test then Some row else rest) ≡ None
    → (bytes_eq row.auction name ≡ false) × (rest ≡ None)
free_by name row rest true is free = absurd (let found = free in cc)
free_by name row rest false is free = (is, free)

-- of a name that is free the first row has another, and the rest has none of it
pub free_first : (name : List ℕ) (first : Kept) (rows : List Kept) → IsFree name (first ∷ rows)
    → (bytes_eq first.auction name ≡ false) × IsFree name rows
free_first name first rows free = free_by name first (row_named name rows) (bytes_eq first.auction name) refl free

-- the name stands before each of these
abbrev pub all_after : List ℕ → List Kept → Bool
all_after name rows = list_all (λ (later : Kept). is_before name later.auction) rows

-- a name before one that stands before all stands before all
before_all : (name : List ℕ) (row : Kept) (rows : List Kept) → is_before name row.auction ≡ true
    → all_after row.auction rows ≡ true
    → all_after name rows ≡ true
before_all name row [] before all = refl
before_all name row (first ∷ rows) before all =
    let each = both_tests _ _ all in
    rw (before_then name row.auction first.auction before each.0) (before_all name row rows before each.1)

-- a name before a row and all others stands before all with the row among them
all_added : (name : List ℕ) (row : Kept) (rows : List Kept) → is_before name row.auction ≡ true
    → all_after name rows ≡ true
    → all_after name (added row rows) ≡ true
all_added name row [] before all = rw before refl
all_added name row (first ∷ rows) before all =
    let each = both_tests _ _ all in
    by_test (is_before row.auction first.auction) each.0 each.1 (all_added name row rows before each.1)
  where
    by_test : (test : Bool) → is_before name first.auction ≡ true
        → all_after name rows ≡ true
        → all_after name (added row rows) ≡ true
        → all_after name (if test then row ∷ first ∷ rows else first ∷ added row rows) ≡ true
    by_test true one others more = rw (before, one) others
    by_test false one others more = rw one more

-- a table with a row more, of a free name, is a table
pub table_added : (row : Kept) (rows : List Kept) → IsFree row.auction rows → IsTable rows → IsTable (added row rows)
table_added row [] free table = refl
table_added row (first ∷ rows) free table =
    let apart = free_first row.auction first rows free in
    let each = both_tests _ _ table in
    by_test (is_before row.auction first.auction) refl apart.0 each.0 each.1 (table_added row rows apart.1 each.1)
  where
    by_test : (test : Bool) → is_before row.auction first.auction ≡ test
        → bytes_eq first.auction row.auction ≡ false
        → all_after first.auction rows ≡ true
        → IsTable rows
        → IsTable (added row rows)
        → IsTable (if test then row ∷ first ∷ rows else first ∷ added row rows)
    by_test true is differ later old more = rw (is, before_all row.auction first rows is later, later) old
    by_test false is differ later old more =
        let back : not (is_before first.auction row.auction) ≡ false =
        sym (before_back first.auction row.auction differ) ∙ is in
        rw (all_added first.auction row rows (not_untrue _ back) later) more

-- putting a row keeps a table
pub table_put_in : (row : Kept) (rows : List Kept) → IsTable rows → IsTable (put_in row rows)
table_put_in row rows table = by_found (row_named row.auction rows) refl
  where
    by_found : (found : Option Kept) → row_named row.auction rows ≡ found → IsTable (put_where row rows found)
    by_found None is = table_added row rows is table
    by_found (Some there) is = table

-- a name before all rows stands before all of a bill
all_of_cusip : (name cusip : List ℕ) (rows : List Kept) → all_after name rows ≡ true
    → all_after name (of_cusip cusip rows) ≡ true
all_of_cusip name cusip [] all = refl
all_of_cusip name cusip (first ∷ rows) all =
    let each = both_tests _ _ all in
    by_test (bytes_eq first.cusip cusip) each.0 (all_of_cusip name cusip rows each.1)
  where
    by_test : (test : Bool) → is_before name first.auction ≡ true
        → all_after name (of_cusip cusip rows) ≡ true
        → all_after name (if test then first ∷ of_cusip cusip rows else of_cusip cusip rows) ≡ true
    by_test true one more = rw one more
    by_test false one more = more

-- the rows of a bill are a table too
pub table_of_cusip : (cusip : List ℕ) (rows : List Kept) → IsTable rows → IsTable (of_cusip cusip rows)
table_of_cusip cusip [] table = refl
table_of_cusip cusip (first ∷ rows) table =
    let each = both_tests _ _ table in
    by_test (bytes_eq first.cusip cusip) (all_of_cusip first.auction cusip rows each.0)
    (table_of_cusip cusip rows each.1)
  where
    by_test : (test : Bool) → all_after first.auction (of_cusip cusip rows) ≡ true
        → IsTable (of_cusip cusip rows)
        → IsTable (if test then first ∷ of_cusip cusip rows else of_cusip cusip rows)
    by_test true later more = rw later more
    by_test false later more = more

-- the row, where it has the name, else what was found
abbrev named_or : Kept → List ℕ → Option Kept → Option Kept
named_or row name found = if bytes_eq row.auction name then Some row else found

-- a name is found behind one more row as before it, but for the row's own
pub named_added : (name : List ℕ) (row : Kept) (rows : List Kept) → IsFree row.auction rows
    → row_named name (added row rows) ≡ (if bytes_eq row.auction name then Some row else row_named name rows)
named_added name row [] free = refl
named_added name row (first ∷ rows) free =
    by_place (is_before row.auction first.auction) (free_first row.auction first rows free) (named_added name row rows)
  where
    by_tests : (its other : Bool) → bytes_eq row.auction name ≡ its
        → bytes_eq first.auction name ≡ other
        → bytes_eq first.auction row.auction ≡ false
        → row_named name (added row rows) ≡ (if its then Some row else row_named name rows)
        → (if other then Some first else row_named name (added row rows))
        ≡ (if its then Some row else (if other then Some first else row_named name rows))
    by_tests true true its other differ more =
        let same = subst (λ named. bytes_eq first.auction named ≡ true) (sym (same_name _ _ its)) other in
        absurd (true_or_false _ same differ)
    by_tests true false its other differ more = more
    by_tests false true its other differ more = refl
    by_tests false false its other differ more = more

    by_place : (test : Bool) → (bytes_eq first.auction row.auction ≡ false) × IsFree row.auction rows
        → (IsFree row.auction rows → row_named name (added row rows) ≡ named_or row name (row_named name rows))
        → row_named name (if test then row ∷ first ∷ rows else first ∷ added row rows)
        ≡ named_or row name (named_or first name (row_named name rows))
    by_place true apart more = refl
    by_place false apart more =
        by_tests (bytes_eq row.auction name) (bytes_eq first.auction name) refl refl apart.0 (more apart.1)

-- a name that is free behind one more row is another than the row's, and was free before
pub free_added : (name : List ℕ) (row : Kept) (rows : List Kept) → IsFree row.auction rows
    → IsFree name (added row rows)
    → (bytes_eq row.auction name ≡ false) × IsFree name rows
free_added name row rows free none =
    free_by name row (row_named name rows) (bytes_eq row.auction name) refl
    (sym (named_added name row rows free) ∙ none)

-- two rows of different names may be added in either order
pub added_swap : (one other : Kept) (rows : List Kept) → bytes_eq one.auction other.auction ≡ false
    → added one (added other rows) ≡ added other (added one rows)
added_swap one other [] differ =
    by_test (is_before one.auction other.auction) (is_before other.auction one.auction)
    (before_back one.auction other.auction differ)
  where
    by_test : (before back : Bool) → back ≡ not before
        → (if before then one ∷ other ∷ [] else other ∷ one ∷ [])
        ≡ (if back then other ∷ one ∷ [] else one ∷ other ∷ [])
    by_test true true turned = absurd (let same = turned in cc)
    by_test true false turned = refl
    by_test false true turned = refl
    by_test false false turned = absurd (let same = turned in cc)
added_swap one other (first ∷ rows) differ =
    by_tests (is_before one.auction first.auction) (is_before other.auction first.auction) refl refl
    (before_back one.auction other.auction differ) (added_swap one other rows differ)
  where
    by_tests : (test test' : Bool) → is_before one.auction first.auction ≡ test
        → is_before other.auction first.auction ≡ test'
        → is_before other.auction one.auction ≡ not (is_before one.auction other.auction)
        → added one (added other rows) ≡ added other (added one rows)
        → added one (if test' then other ∷ first ∷ rows else first ∷ added other rows)
        ≡ added other (if test then one ∷ first ∷ rows else first ∷ added one rows)
    by_tests true true its others back more = both_before (is_before one.auction other.auction) back
      where
        both_before : (before : Bool) → is_before other.auction one.auction ≡ not before
            → (if before then one ∷ other ∷ first ∷ rows else other ∷ added one (first ∷ rows))
            ≡ (if is_before other.auction one.auction then other ∷ one ∷ first ∷ rows
            else one ∷ added other (first ∷ rows))
        both_before true turned = rw (turned, others) refl
        both_before false turned = rw (turned, its) refl
    by_tests true false its others back more = one_before (is_before other.auction one.auction) refl
      where
        one_before : (behind : Bool) → is_before other.auction one.auction ≡ behind
            → (if is_before one.auction first.auction then one ∷ first ∷ added other rows
            else first ∷ added one (added other rows))
            ≡ (if behind then other ∷ one ∷ first ∷ rows else one ∷ added other (first ∷ rows))
        one_before true is =
            absurd (true_or_false _ (before_then other.auction one.auction first.auction is its) others)
        one_before false is = rw (its, others) refl
    by_tests false true its others back more = other_before (is_before one.auction other.auction) refl
      where
        other_before : (before : Bool) → is_before one.auction other.auction ≡ before
            → (if before then one ∷ other ∷ first ∷ rows else other ∷ added one (first ∷ rows))
            ≡ (if is_before other.auction first.auction then other ∷ first ∷ added one rows
            else first ∷ added other (added one rows))
        other_before true is =
            absurd (true_or_false _ (before_then one.auction other.auction first.auction is others) its)
        other_before false is = rw (its, others) refl
    by_tests false false its others back more = rw (its, others) (ap (λ later. first ∷ later) more)
