-- The rows that a table has, in whatever order.
use Rattle.std.proofs.Common.{◌≡◌, ◌⊎◌, inl, inr, ℕ, zero, suc, List, [], ◌∷◌, Contains}
use Rattle.std.proofs.Common.{Bool, true, false, if◌then◌else◌, bytes_eq}
use Rattle.std.proofs.Common.{refl, sym, ap, subst, ◌∙◌, arith}
use Rattle.std.specs.List.Sorted.{IsPermutation}
use Rattle.std.proofs.lemmas.List.Sorted.{IsPermutation-refl, IsPermutation-cons, IsPermutation-trans}
use Rattle.std.proofs.lemmas.List.Sorted.{IsPermutation-sym, IsPermutation-middle}
use Rattle.tb_register.specs.Rows.{Kept}
use Rattle.tb_register.specs.Tables.{is_before, IsTable, added, of_cusip}
use Rattle.tb_register.proofs.OrderLemmas.{before_itself, before_one_way, both_tests, true_or_false}
use Rattle.tb_register.proofs.TableLemmas.{all_after}

-- what a list with one more in front has
pub in_cons : {X : Type 0} (first : X) (rest : List X) (member : X) → Contains (first ∷ rest) member
    → (first ≡ member) ⊎ Contains rest member
in_cons first rest member (zero, within, is) = inl is
in_cons first rest member (suc place, within, is) = inr (place, omega (arith, within), is)

-- it has the one in front
pub in_front : {X : Type 0} (first : X) (rest : List X) → Contains (first ∷ rest) first
in_front first rest = (zero, omega arith, refl)

-- and those behind it
pub in_rest : {X : Type 0} (first : X) (rest : List X) (member : X) → Contains rest member
    → Contains (first ∷ rest) member
in_rest first rest member (place, within, is) = (suc place, omega (arith, within), is)

-- an empty list has none
pub in_none : {X : Type 0} (member : X) → Contains [] member → ⊥
in_none member (place, within, is) = omega (arith, within)

-- the name stands before each row's that it stands before all of
pub before_each : (name : List ℕ) (rows : List Kept) → all_after name rows ≡ true
    → (row : Kept) → Contains rows row → is_before name row.auction ≡ true
before_each name [] all row has = absurd (in_none row has)
before_each name (first ∷ rows) all row has =
    let each = both_tests _ _ all in
    elim (in_cons first rows row has) [
      | inl here ↦ subst (λ (k : Kept). is_before name k.auction ≡ true) here each.0
      | inr later ↦ before_each name rows each.1 row later
    ]

-- and before all that it stands before one by one
pub before_all_of : (name : List ℕ) (rows : List Kept)
    → ((row : Kept) → Contains rows row → is_before name row.auction ≡ true)
    → all_after name rows ≡ true
before_all_of name [] each = refl
before_all_of name (first ∷ rows) each =
    rw (each first (in_front first rows)) (before_all_of name rows (λ row has. each row (in_rest first rows row has)))

-- of two tables with the same rows the first rows are one
same_first : (first first' : Kept) (rows rows' : List Kept) → all_after first.auction rows ≡ true
    → all_after first'.auction rows' ≡ true
    → (first ≡ first') ⊎ Contains rows first'
    → (first' ≡ first) ⊎ Contains rows' first
    → first ≡ first'
same_first first first' rows rows' after after' (inl same) back = same
same_first first first' rows rows' after after' (inr later) (inl same) = sym same
same_first first first' rows rows' after after' (inr later) (inr later') =
    absurd (before_one_way first.auction first'.auction (before_each first.auction rows after first' later)
    (before_each first'.auction rows' after' first later'))

-- and so have the rest
in_others : (first first' : Kept) (rows rows' : List Kept) → all_after first.auction rows ≡ true
    → first ≡ first'
    → ((row : Kept) → Contains (first ∷ rows) row → Contains (first' ∷ rows') row)
    → (row : Kept) → Contains rows row → Contains rows' row
in_others first first' rows rows' after same all row has =
    elim (in_cons first' rows' row (all row (in_rest first rows row has))) [
      | inl here ↦
          let itself : is_before first.auction first.auction ≡ true =
          subst (λ (k : Kept). is_before first.auction k.auction ≡ true) (sym (same ∙ here))
          (before_each first.auction rows after row has) in
          absurd (true_or_false _ itself (before_itself first.auction))
      | inr later ↦ later
    ]

-- a table is told by its rows
pub tables_are_one : (one other : List Kept) → IsTable one → IsTable other
    → ((row : Kept) → Contains one row → Contains other row)
    → ((row : Kept) → Contains other row → Contains one row)
    → one ≡ other
tables_are_one [] [] table table' to from = refl
tables_are_one [] (first' ∷ rows') table table' to from =
    absurd (in_none first' (from first' (in_front first' rows')))
tables_are_one (first ∷ rows) [] table table' to from = absurd (in_none first (to first (in_front first rows)))
tables_are_one (first ∷ rows) (first' ∷ rows') table table' to from =
    let each = both_tests _ _ table in
    let each' = both_tests _ _ table' in
    let same : first ≡ first' =
    same_first first first' rows rows' each.0 each'.0 (in_cons first rows first' (from first' (in_front first' rows')))
    (in_cons first' rows' first (to first (in_front first rows))) in
    let rest : rows ≡ rows' =
    tables_are_one rows rows' each.1 each'.1 (in_others first first' rows rows' each.0 same to)
    (in_others first' first rows' rows each'.0 (sym same) from) in
    ap (λ row. row ∷ rows) same ∙ ap (λ later. first' ∷ later) rest

-- adding a row only puts it among the others
pub added_moves : (row : Kept) (rows : List Kept) → IsPermutation (row ∷ rows) (added row rows)
added_moves row [] = IsPermutation-refl (row ∷ [])
added_moves row (first ∷ rows) = by_test (is_before row.auction first.auction) (added_moves row rows)
  where
    by_test : (test : Bool) → IsPermutation (row ∷ rows) (added row rows)
        → IsPermutation (row ∷ first ∷ rows) (if test then row ∷ first ∷ rows else first ∷ added row rows)
    by_test true more = IsPermutation-refl (row ∷ first ∷ rows)
    by_test false more =
        IsPermutation-trans (row ∷ first ∷ rows) (first ∷ row ∷ rows) (first ∷ added row rows)
        (IsPermutation-sym (first ∷ row ∷ rows) (row ∷ first ∷ rows) (IsPermutation-middle (first ∷ []) row rows))
        (IsPermutation-cons first (row ∷ rows) (added row rows) more)

-- a row that is added joins the rows of its bill
pub of_cusip_added : (cusip : List ℕ) (row : Kept) (rows : List Kept)
    → IsPermutation (of_cusip cusip (row ∷ rows)) (of_cusip cusip (added row rows))
of_cusip_added cusip row [] = IsPermutation-refl (of_cusip cusip (row ∷ []))
of_cusip_added cusip row (first ∷ rows) =
    by_place (is_before row.auction first.auction) (of_cusip_added cusip row rows)
  where
    swapped : IsPermutation (row ∷ first ∷ of_cusip cusip rows) (first ∷ row ∷ of_cusip cusip rows)
    swapped = IsPermutation-sym _ _ (IsPermutation-middle (first ∷ []) row (of_cusip cusip rows))

    by_tests : (its others : Bool)
        → IsPermutation (if its then row ∷ of_cusip cusip rows else of_cusip cusip rows)
        (of_cusip cusip (added row rows))
        → IsPermutation
        (if its then row ∷ (if others then first ∷ of_cusip cusip rows else of_cusip cusip rows)
        else (if others then first ∷ of_cusip cusip rows else of_cusip cusip rows))
        (if others then first ∷ of_cusip cusip (added row rows) else of_cusip cusip (added row rows))
    by_tests true true more = IsPermutation-trans _ _ _ swapped (IsPermutation-cons first _ _ more)
    by_tests true false more = more
    by_tests false true more = IsPermutation-cons first _ _ more
    by_tests false false more = more

    by_place : (test : Bool)
        → IsPermutation (of_cusip cusip (row ∷ rows)) (of_cusip cusip (added row rows))
        → IsPermutation (of_cusip cusip (row ∷ first ∷ rows))
        (of_cusip cusip (if test then row ∷ first ∷ rows else first ∷ added row rows))
    by_place true more = IsPermutation-refl (of_cusip cusip (row ∷ first ∷ rows))
    by_place false more = by_tests (bytes_eq row.cusip cusip) (bytes_eq first.cusip cusip) more
