-- The table of published auctions.
use Rattle.std.specs.Prelude.{true, false, Bool, [], ◌∷◌, ◌++◌, None, codes, List, ℕ}
use Rattle.sqlite.specs.Collation.TheVariants.{Binary}
use Rattle.sqlite.specs.declared.types.Value.TheVariants.{Null}
use Rattle.sqlite.specs.Table.{Table}
use Rattle.sqlite_schema.specs.declared.schema.Column.{Column}
use Rattle.sqlite.specs.Schema.{Schema}
use Rattle.sqlite.specs.Kind.{Kind}
use Rattle.sqlite.specs.Kind.TheVariants.{Integer, Text}
use Rattle.sqlite_catalog.specs.Change.{created}
use Rattle.sqlite_value.specs.Keys.{plain}

-- a column that takes values of its kind alone, compared by their bytes
abbrev pub strict : List ℕ → Kind → Bool → Column
strict name kind not_null = record {
  name = name;
  kind = kind;
  is_strict = true;
  not_null = not_null;
  default = Null;
  collation = Binary;
}

-- the table, whose key is the name of the auction
abbrev pub auctions : Table
auctions = record {
  name = codes "auctions";
  tree = 0;
  columns =
      strict (codes "auction") Text true
      ∷ strict (codes "cusip") Text true
      ∷ strict (codes "issue") Integer true
      ∷ strict (codes "maturity") Integer true
      ∷ strict (codes "offering") Integer true
      ∷ strict (codes "total") Integer true
      ∷ strict (codes "high") Integer false
      ∷ strict (codes "percent") Integer false
      ∷ strict (codes "price") Integer false
      ∷ [];
  key = None;
  primary = 1 ∷ [];
  uniques = (1 ∷ []) ∷ [];
  orders = plain ∷ [];
  checks = [];
  references = [];
  computed = [];
  stamps = record { places = []; terms = []; formats = [] };
  is_counted = false;
}

-- the schema of an empty database
abbrev pub no_schema : Schema
no_schema = record { tables = []; indexes = []; views = [] }

-- the schema with the table alone
abbrev pub register_schema : Schema
register_schema = created no_schema auctions

-- statement 1
abbrev pub create_text : List ℕ
create_text =
    codes "CREATE TABLE IF NOT EXISTS auctions (auction TEXT PRIMARY KEY NOT NULL, cusip TEXT NOT NULL, "
    ++ codes "issue INTEGER NOT NULL, maturity INTEGER NOT NULL, offering INTEGER NOT NULL, "
    ++ codes "total INTEGER NOT NULL, high INTEGER, percent INTEGER, price INTEGER) STRICT"

-- statement 2
abbrev pub insert_text : List ℕ
insert_text =
    codes "INSERT INTO auctions (auction, cusip, issue, maturity, offering, total, high, percent, price) "
    ++ codes "VALUES (?1, ?2, ?3, ?4, ?5, ?6, ?7, ?8, ?9)"

-- statement 3
abbrev pub find_text : List ℕ
find_text =
    codes "SELECT auction, cusip, issue, maturity, offering, total, high, percent, price FROM auctions "
    ++ codes "WHERE auction = ?1"

-- statement 4
abbrev pub of_cusip_text : List ℕ
of_cusip_text =
    codes "SELECT auction, cusip, issue, maturity, offering, total, high, percent, price FROM auctions "
    ++ codes "WHERE cusip = ?1"
