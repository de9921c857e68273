-- Rows of distinct names, once sorted, are a table.
use Rattle.std.proofs.Common.{◌≡◌, ℕ, suc, ◌<◌, ◌≤◌, List, [], ◌∷◌, inl, inr, length, map, get_or, Contains}
use Rattle.std.proofs.Common.{Bool, true, false, not, cond, bytes_eq, refl, sym, ap, subst, ◌∙◌, arith}
use Rattle.std.specs.List.{sum_by}
use Rattle.std.specs.List.Sorted.{IsPermutation, IsSortedByKey}
use Rattle.std.specs.Ordering.{nat_cmp}
use Rattle.std.specs.Cmp.Lexicographic.{slice_cmp}
use Rattle.std.proofs.lemmas.Cmp.{nat_list_cmp_total}
use Rattle.std.proofs.lemmas.List.{get_or-map, length-map}
use Rattle.std.proofs.lemmas.List.Sorted.{IsPermutation-sym, Contains-permutation, sum_by-IsPermutation}
use Rattle.std.proofs.lemmas.List.Sorted.{sorted_far, ranks_by}
use Rattle.std.proofs.lemmas.List.Sums.{sum_by-cons}
use Rattle.tb_register.specs.declared.row.Row.{Row}
use Rattle.tb_register.specs.Rows.{Kept, kept}
use Rattle.tb_register.specs.Tables.{is_before, IsTable}
use Rattle.tb_register.proofs.OrderLemmas.{before_back, before_differs, both_tests}
use Rattle.tb_register.proofs.OrderLemmas.{same_name, name_itself, names_differ}
use Rattle.tb_register.proofs.TableLemmas.{all_after}
use Rattle.tb_register.proofs.MemberLemmas.{in_cons, in_none, before_all_of, tables_are_one}

-- 1 for a row of this name
abbrev weight : List ℕ → Kept → ℕ
weight name row = cond (bytes_eq row.auction name) 1 0

-- how many of these rows have the name
abbrev count_named : List ℕ → List Kept → ℕ
count_named name rows = sum_by (weight name) rows

weight_of : (name : List ℕ) (row : Kept) (test : Bool) → bytes_eq row.auction name ≡ test
    → weight name row ≡ cond test 1 0
weight_of name row test is = rw is refl

-- a name that stands before all is none of theirs
none_after : (name : List ℕ) (rows : List Kept) → all_after name rows ≡ true → count_named name rows ≡ 0
none_after name [] all = refl
none_after name (first ∷ rows) all =
    let each = both_tests _ _ all in
    let other = names_differ name first.auction (before_differs name first.auction each.0) in
    omega (arith, sum_by-cons (weight name) first rows, none_after name rows each.1, weight_of name first false other)

-- in a table no name comes twice
once : (name : List ℕ) (rows : List Kept) → IsTable rows → count_named name rows ≤ 1
once name [] table = omega arith
once name (first ∷ rows) table =
    let each = both_tests _ _ table in
    by_test (bytes_eq first.auction name) refl each.0 (once name rows each.1)
  where
    by_test : (test : Bool) → bytes_eq first.auction name ≡ test
        → all_after first.auction rows ≡ true
        → count_named name rows ≤ 1
        → count_named name (first ∷ rows) ≤ 1
    by_test true is after more =
        let all_behind = subst (λ named. all_after named rows ≡ true) (same_name first.auction name is) after in
        let none = none_after name rows all_behind in
        omega (arith, sum_by-cons (weight name) first rows, none, weight_of name first true is)
    by_test false is after more =
        omega (arith, sum_by-cons (weight name) first rows, more, weight_of name first false is)

-- where no row has the name each has another
none_of : (name : List ℕ) (rows : List Kept) → count_named name rows ≡ 0
    → (row : Kept) → Contains rows row → bytes_eq row.auction name ≡ false
none_of name [] none row has = absurd (in_none row has)
none_of name (first ∷ rows) none row has =
    elim (in_cons first rows row has) [
      | inl here ↦
          subst (λ (k : Kept). bytes_eq k.auction name ≡ false) here (by_test (bytes_eq first.auction name) refl)
      | inr later ↦ none_of name rows (omega (arith, sum_by-cons (weight name) first rows, none)) row later
    ]
  where
    by_test : (test : Bool) → bytes_eq first.auction name ≡ test → bytes_eq first.auction name ≡ false
    by_test true is =
        absurd (omega (arith, sum_by-cons (weight name) first rows, none, weight_of name first true is))
    by_test false is = is

-- no row stands before one in front of it
abbrev Rises : List Kept → Type 0
Rises rows = (place later : ℕ) (default : Kept) → place ≤ later → later < length rows
    → is_before (get_or rows later default).auction (get_or rows place default).auction ≡ false

-- rows that rise, and of which none comes twice, are a table
rising_table : (rows : List Kept) → Rises rows → ((name : List ℕ) → count_named name rows ≤ 1) → IsTable rows
rising_table [] rises each_once = refl
rising_table (first ∷ rows) rises each_once =
    rw (before_all_of first.auction rows (λ row has. apart row has)) (rising_table rows rest_rises rest_once)
  where
    rest_rises : Rises rows
    rest_rises place later default behind within =
        rises (suc place) (suc later) default (omega (arith, behind)) (omega (arith, within))

    rest_once : (name : List ℕ) → count_named name rows ≤ 1
    rest_once name = omega (arith, sum_by-cons (weight name) first rows, each_once name)

    none : count_named first.auction rows ≡ 0
    none =
        let name = first.auction in
        let its = weight_of name first true (name_itself name) in
        omega (arith, sum_by-cons (weight name) first rows, each_once name, its)

    apart : (row : Kept) → Contains rows row → is_before first.auction row.auction ≡ true
    apart row has =
        let behind : is_before (get_or rows has.0 row).auction first.auction ≡ false =
        rises 0 (suc has.0) row (omega arith) (omega (arith, has.1)) in
        let it : is_before row.auction first.auction ≡ false =
        subst (λ (k : Kept). is_before k.auction first.auction ≡ false) has.2 behind in
        before_back row.auction first.auction (none_of first.auction rows none row has) ∙ ap not it

-- what std's sort by the names leaves rises
sorted_rises : (rows : List Row) → IsSortedByKey (λ (row : Row). row.auction) (slice_cmp nat_cmp) rows
    → Rises (map kept rows)
sorted_rises [] sorted place later default behind within = absurd (omega (arith, within))
sorted_rises (first ∷ rows) sorted place later default behind within =
    let fits : later < length (first ∷ rows) = omega (arith, within, length-map (first ∷ rows) kept) in
    let far =
    sorted_far (λ (one other : Row). is_before one.auction other.auction)
    (ranks_by nat_list_cmp_total (λ (row : Row). row.auction)) (first ∷ rows) sorted place later first behind fits in
    let here = get_or-map kept (first ∷ rows) place first default (omega (arith, behind, fits)) in
    let there = get_or-map kept (first ∷ rows) later first default fits in
    rw (here, there) far

-- rows in the order of a sort, which are those of a table in whatever order, are that table
pub sorted_is_table : (table : List Kept) (rows : List Row) → IsTable table
    → IsPermutation table (map kept rows)
    → IsSortedByKey (λ (row : Row). row.auction) (slice_cmp nat_cmp) rows
    → map kept rows ≡ table
sorted_is_table table rows is moved sorted =
    let back = IsPermutation-sym table (map kept rows) moved in
    let each_once : (name : List ℕ) → count_named name (map kept rows) ≤ 1 =
    λ name. subst (λ count. count ≤ 1) (sym (sum_by-IsPermutation (weight name) table (map kept rows) moved))
    (once name table is) in
    tables_are_one (map kept rows) table (rising_table (map kept rows) (sorted_rises rows sorted) each_once) is
    (λ row. Contains-permutation (map kept rows) table row back)
    (λ row. Contains-permutation table (map kept rows) row moved)
