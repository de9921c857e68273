-- Which rows a table has after others are put, one after the other.
use Rattle.std.proofs.Common.{◌≡◌, ◌⊎◌, inl, inr, ℕ, List, [], ◌∷◌, Contains, bytes_eq, Bool, true, false}
use Rattle.std.proofs.Common.{if◌then◌else◌, Option, Some, None, refl, sym, ap, subst, ◌∙◌}
use Rattle.std.proofs.lemmas.List.Sorted.{IsPermutation-sym, Contains-permutation}
use Rattle.tb_register.specs.Rows.{Kept}
use Rattle.tb_register.specs.Tables.{IsTable, row_named, added, put_where, put_in, registered, AreOfAuctions, Registers}
use Rattle.tb_register.proofs.OrderLemmas.{same_name, name_itself, names_differ}
use Rattle.tb_register.proofs.TableLemmas.{IsFree, free_first, free_added, named_added, table_put_in}
use Rattle.tb_register.proofs.MemberLemmas.{in_cons, in_front, in_rest, in_none, added_moves}

-- the row is among those of the table with one row more
among_added : (row : Kept) (table : List Kept) (member : Kept) → Contains (row ∷ table) member
    → Contains (added row table) member
among_added row table member = Contains-permutation (row ∷ table) (added row table) member (added_moves row table)

-- which has no others
only_added : (row : Kept) (table : List Kept) (member : Kept) → Contains (added row table) member
    → Contains (row ∷ table) member
only_added row table member =
    let back = IsPermutation-sym (row ∷ table) (added row table) (added_moves row table) in
    Contains-permutation (added row table) (row ∷ table) member back

-- a table behind a put has its own rows, and the row where its name was free
put_in_has : (row : Kept) (table : List Kept) (member : Kept) → Contains (put_in row table) member
    → Contains table member ⊎ ((row ≡ member) × IsFree row.auction table)
put_in_has row table member has = by_found (row_named row.auction table) refl has
  where
    by_found : (found : Option Kept) → row_named row.auction table ≡ found
        → Contains (put_where row table found) member
        → Contains table member ⊎ ((row ≡ member) × IsFree row.auction table)
    by_found None free has =
        elim (in_cons row table member (only_added row table member has)) [
          | inl same ↦ inr (same, free)
          | inr there ↦ inl there
        ]
    by_found (Some there) is has = inl has

-- a row of the table is there behind a put
put_in_keeps : (row : Kept) (table : List Kept) (member : Kept) → Contains table member
    → Contains (put_in row table) member
put_in_keeps row table member has = by_found (row_named row.auction table)
  where
    by_found : (found : Option Kept) → Contains (put_where row table found) member
    by_found None = among_added row table member (in_rest row table member has)
    by_found (Some there) = has

-- and so is the row that is put, where its name is free
put_in_puts : (row : Kept) (table : List Kept) → IsFree row.auction table → Contains (put_in row table) row
put_in_puts row table free =
    subst (λ found. Contains (put_where row table found) row) (sym free)
    (among_added row table row (in_front row table))

-- a name that is free behind a put was free before it
free_before : (name : List ℕ) (row : Kept) (table : List Kept) → IsFree name (put_in row table) → IsFree name table
free_before name row table free = by_found (row_named row.auction table) refl free
  where
    by_found : (found : Option Kept) → row_named row.auction table ≡ found
        → IsFree name (put_where row table found)
        → IsFree name table
    by_found None its free = (free_added name row table its free).1
    by_found (Some there) is free = free

-- and one that was free is so behind a put of another name
still_free : (name : List ℕ) (row : Kept) (table : List Kept) → bytes_eq row.auction name ≡ false
    → IsFree name table
    → IsFree name (put_in row table)
still_free name row table differ free = by_found (row_named row.auction table) refl
  where
    by_found : (found : Option Kept) → row_named row.auction table ≡ found → IsFree name (put_where row table found)
    by_found None its = named_added name row table its ∙ rw differ free
    by_found (Some there) is = free

-- where a name is free each row has another
others_named : (name : List ℕ) (rows : List Kept) → IsFree name rows
    → (row : Kept) → Contains rows row → bytes_eq row.auction name ≡ false
others_named name [] free row has = absurd (in_none row has)
others_named name (first ∷ rows) free row has =
    let apart = free_first name first rows free in
    elim (in_cons first rows row has) [
      | inl here ↦ subst (λ (k : Kept). bytes_eq k.auction name ≡ false) here apart.0
      | inr later ↦ others_named name rows apart.1 row later
    ]

-- what a table has after rows were put: its own rows, and those of the others whose names were free
registered_has : (rows table : List Kept) (member : Kept) → Contains (registered table rows) member
    → Contains table member ⊎ (Contains rows member × IsFree member.auction table)
registered_has [] table member has = inl has
registered_has (row ∷ rows) table member has =
    elim (registered_has rows (put_in row table) member has) [
      | inl there ↦ elim (put_in_has row table member there) [
        | inl before ↦ inl before
        | inr new ↦
            let free = subst (λ (k : Kept). IsFree k.auction table) new.0 new.1 in
            inr (subst (Contains (row ∷ rows)) new.0 (in_front row rows), free)
      ]
      | inr later ↦ inr (in_rest row rows member later.0, free_before member.auction row table later.1)
    ]

-- its own rows stay
registered_keeps : (rows table : List Kept) (member : Kept) → Contains table member
    → Contains (registered table rows) member
registered_keeps [] table member has = has
registered_keeps (row ∷ rows) table member has =
    registered_keeps rows (put_in row table) member (put_in_keeps row table member has)

-- and those of the others whose names were free are there
registered_puts : (rows table : List Kept) → AreOfAuctions rows
    → (member : Kept) → Contains rows member → IsFree member.auction table
    → Contains (registered table rows) member
registered_puts [] table apart member has free = absurd (in_none member has)
registered_puts (row ∷ rows) table apart member has free =
    elim (in_cons row rows member has) [
      | inl here ↦
          let its = subst (λ (k : Kept). IsFree k.auction table) (sym here) free in
          registered_keeps rows (put_in row table) member
          (subst (Contains (put_in row table)) here (put_in_puts row table its))
      | inr later ↦
          let differ = others_named row.auction rows apart.0 member later in
          registered_puts rows (put_in row table) apart.1 member later
          (still_free member.auction row table (names_differ member.auction row.auction differ) free)
    ]

-- putting rows keeps a table
pub registered_table : (rows table : List Kept) → IsTable table → IsTable (registered table rows)
registered_table [] table is = is
registered_table (row ∷ rows) table is = registered_table rows (put_in row table) (table_put_in row table is)

-- rows of distinct auctions are registered by putting them
pub registers : (table rows : List Kept) → IsTable table → AreOfAuctions rows
    → Registers rows table (registered table rows)
registers table rows is apart =
    record {
      in_order = registered_table rows table is;
      has = λ row. (
        registered_has rows table row,
        λ either. elim either [
          | inl there ↦ registered_keeps rows table row there
          | inr new ↦ registered_puts rows table apart row new.0 new.1
        ],
      );
    }

-- the table has a row of this name
abbrev IsThere : List ℕ → List Kept → Type 0
IsThere name table = (row : Kept) × (row_named name table ≡ Some row)

-- a row that is there stays behind a put
pub put_in_stays : (name : List ℕ) (row : Kept) (table : List Kept) (there : Kept) → row_named name table ≡ Some there
    → row_named name (put_in row table) ≡ Some there
put_in_stays name row table there is = by_found (row_named row.auction table) refl
  where
    by_name : (test : Bool) → bytes_eq row.auction name ≡ test → row_named row.auction table ≡ None
        → (if test then Some row else row_named name table) ≡ Some there
    by_name true same free =
        let none : row_named name table ≡ None =
        subst (λ named. row_named named table ≡ None) (same_name row.auction name same) free in
        absurd (let found = sym none ∙ is in cc)
    by_name false same free = is

    by_found : (found : Option Kept) → row_named row.auction table ≡ found
        → row_named name (put_where row table found) ≡ Some there
    by_found None free = named_added name row table free ∙ by_name (bytes_eq row.auction name) refl free
    by_found (Some other) its = is

-- and behind any number of them
pub registered_stays : (rows : List Kept) (name : List ℕ) (table : List Kept) (there : Kept)
    → row_named name table ≡ Some there
    → row_named name (registered table rows) ≡ Some there
registered_stays [] name table there is = is
registered_stays (row ∷ rows) name table there is =
    registered_stays rows name (put_in row table) there (put_in_stays name row table there is)

-- a row of a free name is there behind its put
pub put_in_new : (row : Kept) (table : List Kept) → IsFree row.auction table
    → row_named row.auction (put_in row table) ≡ Some row
put_in_new row table free =
    subst (λ found. row_named row.auction (put_where row table found) ≡ Some row) (sym free)
    (named_added row.auction row table free ∙ rw (name_itself row.auction) refl)

-- where a row of its name is there a put leaves the table
pub put_in_there : (row : Kept) (table : List Kept) (there : Kept) → row_named row.auction table ≡ Some there
    → put_in row table ≡ table
put_in_there row table there is = ap (put_where row table) is

-- behind a put a row of its name is there
there_after : (row : Kept) (table : List Kept) → IsThere row.auction (put_in row table)
there_after row table = by_found (row_named row.auction table) refl
  where
    by_found : (found : Option Kept) → row_named row.auction table ≡ found → IsThere row.auction (put_in row table)
    by_found None free = (row, put_in_new row table free)
    by_found (Some there) is = (there, put_in_stays row.auction row table there is)

-- and behind several, one of each of their names
all_there : (rows table : List Kept) (row : Kept) → Contains rows row → IsThere row.auction (registered table rows)
all_there [] table row has = absurd (in_none row has)
all_there (first ∷ rows) table row has =
    elim (in_cons first rows row has) [
      | inl here ↦
          let there = subst (λ (k : Kept). IsThere k.auction (put_in first table)) here (there_after first table) in
          (there.0, registered_stays rows row.auction (put_in first table) there.0 there.1)
      | inr later ↦ all_there rows (put_in first table) row later
    ]

-- rows whose names are all there leave the table
nothing_new : (rows table : List Kept) → ((row : Kept) → Contains rows row → IsThere row.auction table)
    → registered table rows ≡ table
nothing_new [] table there = refl
nothing_new (first ∷ rows) table there =
    let its = there first (in_front first rows) in
    ap (λ after. registered after rows) (put_in_there first table its.0 its.1)
    ∙ nothing_new rows table (λ row has. there row (in_rest first rows row has))

-- rows that were put leave the table when they are put again
pub registered_again : (table rows : List Kept) → registered (registered table rows) rows ≡ registered table rows
registered_again table rows = nothing_new rows (registered table rows) (all_there rows table)
