-- What the four texts mean.
use Rattle.std.proofs.Common.{◌≡◌, ◌≤◌, ℕ, pos, negsuc, List, [], ◌∷◌, length, codes, false}
use Rattle.std.proofs.Common.{None, Result, Ok, Err, refl}
use Rattle.std.proofs.Common.{lit≤}
use Rattle.sqlite.specs.declared.types.Value.TheVariants.{Null, Int}
use Rattle.sqlite.specs.Term.{Term, lit, col, op2}
use Rattle.sqlite.specs.Query.{Query, inner, end}
use Rattle.sqlite_sql.specs.declared.ops.BinaryOp.TheVariants.{Compare}
use Rattle.sqlite_sql.specs.declared.ops.CompareOp.TheVariants.{Eq}
use Rattle.sqlite_value.specs.declared.keys.Collation.TheVariants.{Binary}
use Rattle.sqlite.specs.Source.TheVariants.{Values}
use Rattle.sqlite_schema.specs.declared.command.Command.{Command}
use Rattle.sqlite.specs.Command.TheVariants.{Insert, Select, CreateTable, Nothing}
use Rattle.sqlite.specs.Compile.{table_defined_by}
use Rattle.sqlite_resolve.specs.declared.compiled.Compiled.{Compiled}
use Rattle.sqlite_resolve.specs.declared.error.CompileError.{CompileError}
use Rattle.sqlite_tied.specs.Compute.{everything}
use Rattle.sqlite.specs.Listing.{understood, reads_listing}
use Rattle.sqlite.proofs.Callers.{IsPlain, command_of, statement_of}
use Rattle.tb_register_sql.specs.Auctions.{auctions, no_schema, register_schema}
use Rattle.tb_register_sql.specs.Auctions.{create_text, insert_text, find_text, of_cusip_text}

-- statement 1 is the making of a table, which is `auctions`
pub create_is : (command_of (understood no_schema create_text) ≡ CreateTable)
    × (statement_of create_text (understood no_schema create_text) ≡ create_text)
    × (table_defined_by create_text ≡ Ok auctions)
unfolding understood everything
create_is = (refl, refl, refl)

-- over a table that stands it is nothing
pub create_again : command_of (understood register_schema create_text) ≡ Nothing
unfolding understood everything
create_again = refl

-- the values of a new row: its number, which is chosen, and the nine parameters
abbrev pub terms : List Term
terms = lit Null ∷ col 0 0 ∷ col 0 1 ∷ col 0 2 ∷ col 0 3 ∷ col 0 4 ∷ col 0 5 ∷ col 0 6 ∷ col 0 7 ∷ col 0 8 ∷ []

-- they are put into the table as one row
abbrev pub insertion : Command
insertion = Insert 0 (Values terms 10)

-- which is what statement 2 does
pub insert_is : command_of (understood register_schema insert_text) ≡ insertion
unfolding understood everything
insert_is = refl

-- this column is the parameter
abbrev pub is_given : ℕ → Term
is_given at = op2 (Compare Eq Binary) (col 1 at) (col 0 0)

-- the nine columns of the rows of which that holds, in whatever order
abbrev pub query : ℕ → Query
query at = record {
  from = inner 0 end;
  filter = is_given at ∷ [];
  group = None;
  project = col 1 1 ∷ col 1 2 ∷ col 1 3 ∷ col 1 4 ∷ col 1 5 ∷ col 1 6 ∷ col 1 7 ∷ col 1 8 ∷ col 1 9 ∷ [];
  distinct = false;
  collations = [];
  order = [];
  limit = lit (Int (negsuc 0));
  offset = lit (Int (pos 0));
}

-- the names of the nine columns
abbrev pub names : List (List ℕ)
names =
    codes "auction" ∷ codes "cusip" ∷ codes "issue" ∷ codes "maturity" ∷ codes "offering" ∷ codes "total"
    ∷ codes "high" ∷ codes "percent" ∷ codes "price" ∷ []

-- statement 3 asks for the rows of a name, which is column 1
pub find_is : command_of (understood register_schema find_text) ≡ Select (record { lets = []; body = query 1 }) names
unfolding understood everything
find_is = refl

-- statement 4 for those of a CUSIP, which is column 2
pub of_cusip_is : command_of (understood register_schema of_cusip_text)
    ≡ Select (record { lets = []; body = query 2 }) names
unfolding understood everything
of_cusip_is = refl

-- none of the four has RETURNING or asks for the time
pub create_plain : IsPlain (understood no_schema create_text)
unfolding understood everything
create_plain = (refl, refl)

pub create_again_plain : IsPlain (understood register_schema create_text)
unfolding understood everything
create_again_plain = (refl, refl)

-- the text is one statement that takes so many parameters
abbrev pub IsWhole : List ℕ → ℕ → Result Compiled CompileError → Type 0
IsWhole sql given (Ok compiled) = (length sql ≤ compiled.tail) × (length compiled.names ≡ given)
IsWhole sql given (Err fault) = ⊥

-- statement 1 is so over a table that stands
pub create_again_whole : IsWhole create_text 0 (understood register_schema create_text)
unfolding understood everything
create_again_whole = (lit≤ tt, refl)

pub insert_plain : IsPlain (understood register_schema insert_text)
unfolding understood everything
insert_plain = (refl, refl)

pub find_plain : IsPlain (understood register_schema find_text)
unfolding understood everything
find_plain = (refl, refl)

pub of_cusip_plain : IsPlain (understood register_schema of_cusip_text)
unfolding understood everything
of_cusip_plain = (refl, refl)

-- nor do statements 3 and 4 read the list of tables
pub find_unlisted : reads_listing register_schema find_text ≡ false
unfolding understood everything
find_unlisted = refl

pub of_cusip_unlisted : reads_listing register_schema of_cusip_text ≡ false
unfolding understood everything
of_cusip_unlisted = refl
