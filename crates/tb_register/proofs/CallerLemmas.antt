-- For crates above: rows put one after the other.
use Rattle.std.proofs.Common.{◌≡◌, ◌+◌, List, [], ◌∷◌, ◌++◌, length, Option, Some, None}
use Rattle.std.proofs.Common.{refl, ap, ◌∙◌, arith}
use Rattle.std.specs.Option.{option_map}
use Rattle.std.proofs.lemmas.List.Sorted.{length_permutation}
use Rattle.tb_register.specs.Rows.{Kept}
use Rattle.tb_register.specs.Tables.{added, put_where, put_in, registered}
use Rattle.tb_register.proofs.TableLemmas.{IsFree}
use Rattle.tb_register.proofs.MemberLemmas.{added_moves}

-- the last row is put behind the others
pub registered_last : (table front : List Kept) (row : Kept)
    → registered table (front ++ row ∷ []) ≡ put_in row (registered table front)
registered_last table [] row = refl
registered_last table (first ∷ front) row = registered_last (put_in first table) front row

-- the same of a table that is told, or isn't
pub told_last : (told : Option (List Kept)) (front : List Kept) (row : Kept)
    → option_map (λ table. registered table (front ++ row ∷ [])) told
    ≡ option_map (put_in row) (option_map (λ table. registered table front) told)
told_last None front row = refl
told_last (Some table) front row = ap Some (registered_last table front row)

-- a row of a free name makes the table one row longer
pub length-put_in : (row : Kept) (table : List Kept) → IsFree row.auction table
    → length (put_in row table) ≡ length table + 1
length-put_in row table free =
    let one_more : length (added row table) ≡ length (row ∷ table) =
    length_permutation (row ∷ table) (added row table) (added_moves row table) in
    ap (λ found. length (put_where row table found)) free ∙ one_more ∙ omega arith
