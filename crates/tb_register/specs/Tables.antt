-- Tables of rows in rising byte order of the auctions' names, and what putting rows makes of them.
use Rattle.std.specs.Prelude.{◌≡◌, ◌⊎◌, ◌↔◌, ⊤, ℕ, List, [], ◌∷◌, Contains, bytes_eq}
use Rattle.std.specs.Prelude.{Bool, true, ◌&&◌, if◌then◌else◌, Option, Some, None}
use Rattle.std.specs.List.{list_all}
use Rattle.std.specs.Ordering.{nat_cmp, is_lt}
use Rattle.std.specs.Cmp.Lexicographic.{slice_cmp}
use Rattle.tb_register.specs.Rows.{Kept}

-- the one name stands before the other in byte order
abbrev pub is_before : List ℕ → List ℕ → Bool
is_before one other = is_lt (slice_cmp nat_cmp one other)

-- the names rise, so that none comes twice
abbrev pub is_table : List Kept → Bool
is_table [] = true
is_table (row ∷ rows) = list_all (λ later. is_before row.auction later.auction) rows && is_table rows

abbrev pub IsTable : List Kept → Type 0
IsTable rows = is_table rows ≡ true

-- the row of the auction with this name, if there is one
abbrev pub row_named : List ℕ → List Kept → Option Kept
row_named name [] = None
row_named name (row ∷ rows) = if bytes_eq row.auction name then Some row else row_named name rows

-- with one row more, at its place
abbrev pub added : Kept → List Kept → List Kept
added row [] = row ∷ []
added row (first ∷ rows) = if is_before row.auction first.auction then row ∷ first ∷ rows else first ∷ added row rows

-- with one row more, where none of its name was found
abbrev pub put_where : Kept → List Kept → Option Kept → List Kept
put_where row table None = added row table
put_where row table (Some found) = table

-- the table after a row is put: the row of its name that is there stays
abbrev pub put_in : Kept → List Kept → List Kept
put_in row table = put_where row table (row_named row.auction table)

-- the rows of the bill with this CUSIP, in order
abbrev pub of_cusip : List ℕ → List Kept → List Kept
of_cusip cusip [] = []
of_cusip cusip (row ∷ rows) = if bytes_eq row.cusip cusip then row ∷ of_cusip cusip rows else of_cusip cusip rows

-- the table after these rows are put, one after the other
abbrev pub registered : List Kept → List Kept → List Kept
registered table [] = table
registered table (row ∷ rows) = registered (put_in row table) rows

-- no two rows are of one auction
abbrev pub AreOfAuctions : List Kept → Type 0
AreOfAuctions [] = ⊤
AreOfAuctions (row ∷ rows) = (row_named row.auction rows ≡ None) × AreOfAuctions rows

-- these rows are registered: the table has its own rows, those of the others whose auction had none, and no more
pub record Registers (rows old new : List Kept) : Type 0 where
  pub in_order : IsTable new
  pub has : (row : Kept)
      → Contains new row ↔ (Contains old row ⊎ (Contains rows row × (row_named row.auction old ≡ None)))
