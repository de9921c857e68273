-- The table in SQL, and the rows that it stands for.
use Rattle.std.specs.Prelude.{◌≡◌, ◌⊎◌, ◌≤◌, ◌^◌, ⊤, ℕ, ℤ, pos, List, [], ◌∷◌, length, Bool, true, false, IsTrue}
use Rattle.std.specs.Prelude.{Option, Some, None, IfSome}
use Rattle.std.specs.Ordering.{is_eq}
use Rattle.sqlite.specs.Table.{Table}
use Rattle.sqlite.specs.declared.types.Value.{Value}
use Rattle.sqlite.specs.declared.types.Value.TheVariants.{Null, Int, Text}
use Rattle.sqlite.specs.Order.{Row, column, value_cmp}
use Rattle.sqlite.specs.Store.{Ghosts}
use Rattle.sqlite.specs.Held.{Held, state}
use Rattle.sqlite.specs.State.{State, HasCleanDisk}
use Rattle.tb_units.specs.Names.{is_name}
use Rattle.tb_register.specs.Rows.{Kept, KeptFigures}
use Rattle.tb_register.specs.Tables.{row_named, added}
use Rattle.tb_register_sql.specs.Auctions.{no_schema, register_schema}

-- the nine values of a row
abbrev pub cells : List ℕ → List ℕ → ℤ → ℤ → ℤ → ℤ → Value → Value → Value → Row
cells auction cusip issue maturity offering total high percent price =
    Text auction ∷ Text cusip ∷ Int issue ∷ Int maturity ∷ Int offering ∷ Int total ∷ high ∷ percent ∷ price ∷ []

-- one of the figures, which is NULL without awards
abbrev pub figure_of : (KeptFigures → ℕ) → Option KeptFigures → Value
figure_of which None = Null
figure_of which (Some figures) = Int (pos (which figures))

-- a row as it is stored
abbrev pub cells_of : Kept → Row
cells_of row =
    cells row.auction row.cusip (pos row.issue) (pos row.maturity) (pos row.offering) (pos row.total)
    (figure_of (λ f. f.high) row.figures) (figure_of (λ f. f.percent) row.figures)
    (figure_of (λ f. f.price) row.figures)

-- what each column of a row of SQL has
abbrev pub values_of : Row → Row
values_of row =
    column row 0 ∷ column row 1 ∷ column row 2 ∷ column row 3 ∷ column row 4 ∷ column row 5
    ∷ column row 6 ∷ column row 7 ∷ column row 8 ∷ []

-- a day of 2000 to 2099
abbrev pub IsDay : ℕ → Type 0
IsDay number = (10957 ≤ number) × (number ≤ 47481)

-- the figures are in the ranges of a rate, a percentage and a price
pub record AreInRange (figures : KeptFigures) : Type 0 where
  pub high : figures.high ≤ 199999
  pub percent : (1 ≤ figures.percent) × (figures.percent ≤ 10000)
  pub price : (1 ≤ figures.price) × (figures.price ≤ 10 ^ 8)

-- the values are in the ranges of a row: a name, nine bytes, days, amounts up to 10^17
pub record IsInRange (row : Kept) : Type 0 where
  pub auction : is_name row.auction ≡ true
  pub cusip : length row.cusip ≡ 9
  pub issue : IsDay row.issue
  pub maturity : IsDay row.maturity
  pub offering : row.offering ≤ 10 ^ 17
  pub total : row.total ≤ 10 ^ 17
  pub figures : IfSome row.figures AreInRange

-- the text that a value is, and none where it isn't one
abbrev pub text_in : Value → List ℕ
text_in (Text text) = text
text_in _ = []

-- the number that a value is, and 0 where it isn't one
abbrev pub number_in : Value → ℕ
number_in (Int (pos number)) = number
number_in _ = 0

-- the figures that three values are, where the first is a number
abbrev pub figures_in : Value → Value → Value → Option KeptFigures
figures_in (Int high) percent price =
    Some (record { high = number_in (Int high); percent = number_in percent; price = number_in price })
figures_in _ percent price = None

-- the row that nine values are
abbrev pub kept_from : Row → Kept
kept_from row = record {
  auction = text_in (column row 0);
  cusip = text_in (column row 1);
  issue = number_in (column row 2);
  maturity = number_in (column row 3);
  offering = number_in (column row 4);
  total = number_in (column row 5);
  figures = figures_in (column row 6) (column row 7) (column row 8);
}

-- what a SELECT shows of a row of the table, which has its number in front
abbrev pub shown : Row → Row
shown row =
    column row 1 ∷ column row 2 ∷ column row 3 ∷ column row 4 ∷ column row 5 ∷ column row 6
    ∷ column row 7 ∷ column row 8 ∷ column row 9 ∷ []

-- the column has this text
abbrev pub is_at : ℕ → List ℕ → Row → Bool
is_at at text row = is_eq (value_cmp (column row at) (Text text))

-- the row that a row of the table is
abbrev pub kept_in : Row → Kept
kept_in row = kept_from (shown row)

-- the rows in order of their names
abbrev pub table_of : List Row → List Kept
table_of [] = []
table_of (row ∷ rows) = added (kept_in row) (table_of rows)

-- each row is one of the register's, and no two have one name
abbrev pub AreKept : List Row → Type 0
AreKept [] = ⊤
AreKept (row ∷ rows) =
    (cells_of (kept_in row) ≡ shown row)
    × (row_named (kept_in row).auction (table_of rows) ≡ None)
    × AreKept rows

-- no transaction is open
pub record IsSettled (s : State) : Type 0 where
  pub committed : s.committed ≡ s.now
  pub autocommit : s.in_transaction ≡ false

-- the database is empty
pub record IsUnmade (s : State) : Type 0 where
  pub schema : s.now.schema ≡ no_schema
  pub settled : IsSettled s

-- the database has the table of auctions, with rows of the register
pub record IsMade (s : State) : Type 0 where
  pub schema : s.now.schema ≡ register_schema
  pub rows : AreKept (s.now.trees 0)
  pub settled : IsSettled s

-- the table
abbrev pub rows_of : State → List Kept
rows_of s = table_of (s.now.trees 0)

-- The table is made. Before statement 1 has succeeded once the database may be empty, and it may have the table of an
-- earlier run.
abbrev pub IsShelf : Bool → State → Type 0
IsShelf true s = IsMade s
IsShelf false s = IsUnmade s ⊎ IsMade s

-- the rows of a database with these tables: none where there is no table
abbrev pub rows_under : List Table → State → List Kept
rows_under [] s = []
rows_under (table ∷ tables) s = rows_of s

-- the rows that the database has of the register
abbrev pub shelf_rows : State → List Kept
shelf_rows s = rows_under s.now.schema.tables s

-- the table stays
pub record StaysMade (old new : State) : Type 0 where
  pub made : IsMade new
  pub rows : rows_of new ≡ rows_of old

-- a row is added to the table
pub record Adds (row : Kept) (old new : State) : Type 0 where
  pub made : IsMade new
  pub rows : rows_of new ≡ added row (rows_of old)

-- a connection of this store is always open, and no wrong answer is ever taken: memory
abbrev pub IsSure : {S : Type 0} → Ghosts S → Type 0
IsSure {S} g = (c : Held S) → HasCleanDisk (state g c) × IsTrue (state g c).is_open
