-- Where a row is put among the rows of a table.
use Rattle.std.proofs.Common.{◌≡◌, ℕ, zero, suc, ◌+◌, ◌<◌, List, [], ◌∷◌, ◌++◌, length, map, take, drop, get_or}
use Rattle.std.proofs.Common.{true, false, refl, ap, subst, arith}
use Rattle.tb_register.specs.declared.row.Row.{Row}
use Rattle.tb_register.specs.Rows.{Kept, kept}
use Rattle.tb_register.specs.Tables.{is_before, added}

-- the table with the row, which is sought behind so many rows
abbrev added_behind : Kept → List Row → ℕ → List Kept
added_behind row rows place = map kept (take place rows) ++ added row (map kept (drop place rows))

added_next : (row : Kept) (rows : List Row) (place : ℕ) (default : Row) → place < length rows
    → is_before row.auction (get_or rows place default).auction ≡ false
    → added_behind row rows place ≡ added_behind row rows (suc place)
added_next row [] place default within behind = absurd (omega arith)
added_next row (first ∷ rows) zero default within behind = rw behind refl
added_next row (first ∷ rows) (suc place) default within behind =
    ap (λ later. kept first ∷ later) (added_next row rows place default (omega arith) behind)

-- a row that doesn't stand before the first belongs behind it
pub added_step : (row : Kept) (rows : List Row) (place : ℕ) (default : Row) → place < length rows
    → is_before row.auction (get_or rows place default).auction ≡ false
    → map kept (take place rows) ++ added row (map kept (drop place rows))
    ≡ map kept (take (place + 1) rows) ++ added row (map kept (drop (place + 1) rows))
added_step row rows place default within behind =
    let next : suc place ≡ place + 1 = omega arith in
    subst (λ there. added_behind row rows place ≡ added_behind row rows there) next
    (added_next row rows place default within behind)

-- and one that does, in front of it
pub added_here : (row : Kept) (rows : List Row) (place : ℕ) (default : Row) → place < length rows
    → is_before row.auction (get_or rows place default).auction ≡ true
    → added row (map kept (drop place rows)) ≡ row ∷ map kept (drop place rows)
added_here row [] place default within before = absurd (omega arith)
added_here row (first ∷ rows) zero default within before = rw before refl
added_here row (first ∷ rows) (suc place) default within before =
    added_here row rows place default (omega arith) before
