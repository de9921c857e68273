-- What the four statements do to the table, in any connection.
use Rattle.std.proofs.Common.{◌≡◌, ◌⊎◌, inl, inr, ℕ, ℤ, pos, List, [], ◌∷◌, ◌++◌, map, filter, flat_map}
use Rattle.std.proofs.Common.{Bool, true, false, cond, not, ◌&&◌, Option, Some, None, Result, Ok, Err}
use Rattle.std.proofs.Common.{refl, sym, ap, subst, ◌∙◌}
use Rattle.std.specs.Prelude.{if◌then◌else◌}
use Rattle.std.specs.List.Sorted.{IsPermutation}
use Rattle.std.specs.Ordering.{is_eq}
use Rattle.std.proofs.lemmas.List.Sorted.{IsPermutation-map}
use Rattle.sqlite.specs.declared.types.Value.{Value}
use Rattle.sqlite.specs.declared.types.Value.TheVariants.{Null, Int, Real, Text, Blob}
use Rattle.sqlite.specs.Order.{Row, column, value_cmp}
use Rattle.sqlite.specs.Term.{Env, holds}
use Rattle.sqlite.specs.Ops.{unary, binary}
use Rattle.sqlite_sql.specs.Ops.{is_true, from_truth}
use Rattle.sqlite_sql.specs.declared.ops.BinaryOp.TheVariants.{Compare}
use Rattle.sqlite_sql.specs.declared.ops.CompareOp.TheVariants.{Eq}
use Rattle.sqlite_value.specs.declared.keys.Collation.TheVariants.{Binary}
use Rattle.sqlite.specs.Query.{IsAnswer, output, Output}
use Rattle.sqlite.specs.Program.{overlay}
use Rattle.sqlite.specs.Kind.TheVariants.{Integer}
use Rattle.sqlite_schema.specs.declared.command.Command.{Command}
use Rattle.sqlite.specs.Command.TheVariants.{CreateTable}
use Rattle.sqlite.specs.Edit.{Edit, edit_of, edited, are_fresh, next_rowid, is_taken}
use Rattle.sqlite.specs.Cast.{cast}
use Rattle.sqlite.specs.Rowids.TheVariants.{Chosen}
use Rattle.sqlite.specs.Change.{created, next_tree}
use Rattle.sqlite.specs.Does.{Tally, Does, lacks_sequence}
use Rattle.sqlite.specs.Rows.{Written}
use Rattle.sqlite.specs.Tree.{Trees, put_row}
use Rattle.sqlite.specs.Listing.{understood}
use Rattle.sqlite.specs.Effect.{Database}
use Rattle.sqlite.specs.State.{State, mode_of, Writes, Executes, Shown}
use Rattle.sqlite.proofs.Callers.{statement_of, runs_as, reads_as, one_step}
use Rattle.tb_register.specs.Rows.{Kept, KeptFigures}
use Rattle.tb_register_sql.specs.Shelves.{figure_of, cells_of, shown, is_at, IsSettled}
use Rattle.tb_register_sql.specs.Auctions.{auctions, no_schema, register_schema}
use Rattle.tb_register_sql.specs.Auctions.{create_text, insert_text, find_text, of_cusip_text}
use Rattle.tb_register_sql.proofs.TextLemmas.{is_given, query, insertion, create_is, create_plain}
use Rattle.tb_register_sql.proofs.TextLemmas.{insert_is, insert_plain}
use Rattle.tb_register_sql.proofs.TextLemmas.{find_is, find_plain, find_unlisted}
use Rattle.tb_register_sql.proofs.TextLemmas.{of_cusip_is, of_cusip_plain, of_cusip_unlisted}
use Rattle.tb_register_sql.proofs.TableLemmas.{Shows}

either_way : (test : Bool) (value : Value) → cond test value value ≡ value
either_way true value = refl
either_way false value = refl

-- a column of whole numbers takes NULL as it is
cast_null : cast Integer Null ≡ Null
unfolding unary
cast_null = either_way _ Null

-- and a whole number
cast_int : (number : ℤ) → cast Integer (Int number) ≡ Int number
unfolding unary
cast_int number = either_way _ (Int number)

-- so a figure, which is one of the two
cast_figure : (which : KeptFigures → ℕ) (figures : Option KeptFigures)
    → cast Integer (figure_of which figures) ≡ figure_of which figures
cast_figure which None = cast_null
cast_figure which (Some figures) = cast_int (pos (which figures))

-- a part that gave a value did not stop on the way
went : {Given Fault Rest : Type 0} {value : Given} {Stops : Fault → Type 0}
    → ((stop : Fault) × Stops stop × (Ok value ≡ Err stop)) ⊎ Rest
    → Rest
went (inl stopped) = absurd (let differ = stopped.2 in cc)
went (inr on) = on

same_value : {Given Fault : Type 0} {one other : Given} → ◌≡◌ {A = Result Given Fault} (Ok one) (Ok other) → one ≡ other
same_value same = cc

-- a write outside a transaction is committed
pub write_settles : (old new : State) (command : Command) (text : List ℕ) (params : Row) (count : ℕ) → IsSettled old
    → Writes old new None command text params count
    → IsSettled new
write_settles old new command text params count was wrote = record {
  committed = wrote.shown.committed_is ∙ ap (λ test. if test then old.committed else new.now) was.autocommit;
  autocommit = wrote.shown.mode ∙ was.autocommit;
}

-- statement 1, where it succeeds, is a write
pub create_writes : (old new : State) (count : ℕ) → old.now.schema ≡ no_schema
    → Executes create_text [] old new (Ok count)
    → Writes old new None CreateTable create_text [] count
create_writes old new count has runs =
    subst (λ text. Writes old new None CreateTable text [] count) create_is.1
    (runs_as create_text [] old new no_schema has CreateTable create_is.0 create_plain count runs)

-- it makes the table, with no row
pub creates : (old new : State) (count : ℕ) → old.now.schema ≡ no_schema
    → Executes create_text [] old new (Ok count)
    → (new.now.schema ≡ register_schema) × (new.now.trees 0 ≡ [])
creates old new count has runs =
    let wrote = create_writes old new count has runs in
    let ended = went wrote.changed in
    let defined = went ended.1 in
    let made = defined.1 in
    let both : Ok made.table ≡ Ok auctions = sym made.defined ∙ create_is.2 in
    let table : made.table ≡ auctions = cc in
    let schema : defined.0.schema ≡ register_schema =
    made.is ∙ ap (λ before. created before made.table) has ∙ ap (created no_schema) table in
    let plain : lacks_sequence defined.0.schema ≡ false = ap lacks_sequence schema in
    let last = same_value (rw plain at defined.2) in
    let now : new.now ≡ defined.0 = ap (λ (pair : Tally × Database). pair.1) (same_value ended.2) ∙ last in
    let empty = subst (λ before. defined.0.trees (next_tree before) ≡ []) has made.empty in
    (ap (λ (it : Database). it.schema) now ∙ schema, ap (λ (it : Database). it.trees 0) now ∙ empty)

-- the text of statement 2, as it is run
abbrev pub inserting : List ℕ
inserting = statement_of insert_text (understood register_schema insert_text)

-- statement 2, where it succeeds, is a write
pub insert_writes : (old new : State) (params : Row) (count : ℕ) → old.now.schema ≡ register_schema
    → Executes insert_text params old new (Ok count)
    → Writes old new None insertion inserting params count
insert_writes old new params count has runs =
    runs_as insert_text params old new register_schema has insertion insert_is insert_plain count runs

-- these values are put into the table, under the next numbers
abbrev putting : Trees → List Row → Edit
putting db values = edit_of db auctions [] Chosen 0 values

-- a row of the table: the next number, and the row
abbrev pub next_row : List Row → Kept → Row
next_row rows row = Int (next_rowid rows) ∷ cells_of row

-- it puts a row in, under the next number, which none has
pub adds : (old new : State) (row : Kept) (count : ℕ) → old.now.schema ≡ register_schema
    → Executes insert_text (cells_of row) old new (Ok count)
    → (is_taken (old.now.trees 0) (next_row (old.now.trees 0) row) ≡ false)
    × (new.now.schema ≡ register_schema)
    × (new.now.trees 0 ≡ put_row (next_row (old.now.trees 0) row) (old.now.trees 0))
adds old new row count has runs =
    let db = old.now.trees in
    let wrote = insert_writes old new (cells_of row) count has runs in
    let ended =
    went (subst (λ schema. Does old.step_limit (mode_of old) (cells_of row) (record old.now { schema = schema })
    inserting None insertion (Ok (wrote.tally, new.now))) has wrote.changed) in
    let now = ap (λ (pair : Tally × Database). pair.1) (same_value (went (went ended.2).2).2) in
    let given = went ended.1 in
    let written = went (went given.2).2 in
    let counted = went written.2 in
    let trees : ended.0.trees ≡ written.0 =
    ap (λ (it : Written). it.trees) (same_value counted.2) ∙ same_value counted.1 in
    let step = one_step register_schema _ db written.0 (putting db given.0) refl written.1 in
    let put : edited db (putting db given.0) ≡ put_row (next_row (db 0) row) (db 0) =
    ap (λ values. edited db (putting db values)) given.1.1
    ∙ rw (
      cast_null,
      cast_int (pos row.issue),
      cast_int (pos row.maturity),
      cast_int (pos row.offering),
      cast_int (pos row.total),
      cast_figure (λ f. f.high) row.figures,
      cast_figure (λ f. f.percent) row.figures,
      cast_figure (λ f. f.price) row.figures,
    ) refl in
    let fresh : not (is_taken (db 0) (next_row (db 0) row)) && true ≡ true =
    sym (ap (λ values. are_fresh (db 0) (putting db values).news) given.1.1 ∙ rw cast_null refl) ∙ step.fresh in
    let rows = ap (λ (it : Database). it.trees 0) now ∙ ap (λ (it : Trees). it 0) trees ∙ step.rows ∙ put in
    (untaken _ fresh, ap (λ (it : Database). it.schema) now, rows)
  where
    untaken : (taken : Bool) → not taken && true ≡ true → taken ≡ false
    untaken true fresh = absurd (let holds = fresh in cc)
    untaken false fresh = refl

-- a value is a text where it compares as equal with it
compares : (value : Value) (text : List ℕ)
    → is_true (binary (Compare Eq Binary) value (Text text)) ≡ is_eq (value_cmp value (Text text))
unfolding binary value_cmp
compares Null text = refl
compares (Int number) text = refl
compares (Real number) text = refl
compares (Text other) text =
    elim (is_eq (value_cmp (Text other) (Text text)))
    as (λ test. is_true (if false then Null else from_truth (Some test)) ≡ test) [
      | true ↦ refl
      | false ↦ refl
    ]
compares (Blob bytes) text = refl

-- what a WHERE sees: the parameter, and a row of the table
abbrev seen : List ℕ → Row → Env
seen text row = (Text text ∷ []) ∷ row ∷ []

-- the rows of which the WHERE holds, as it sees them
abbrev matching : ℕ → List ℕ → List Row → List Env
matching at text rows =
    flat_map (λ row. if holds (seen text row) (is_given at) && true then seen text row ∷ [] else []) rows

-- what the query shows of each
abbrev shown_by : ℕ → List Env → List Row
shown_by at matches = map (λ (one : Output). one.1) (map (output (query at)) matches)

-- WHERE keeps the rows that have the text in its column, and shows their nine columns
matched : (at : ℕ) (text : List ℕ) (rows : List Row)
    → shown_by at (matching at text rows) ≡ map shown (filter (is_at at text) rows)
matched at text [] = refl
matched at text (row ∷ rows) =
    let same : holds (seen text row) (is_given at) ≡ is_at at text row = compares (column row at) text in
    rw same (by_test (is_at at text row) (matched at text rows))
  where
    by_test : (test : Bool) → shown_by at (matching at text rows) ≡ map shown (filter (is_at at text) rows)
        → shown_by at ((if test && true then seen text row ∷ [] else []) ++ matching at text rows)
        ≡ map shown (if test then row ∷ filter (is_at at text) rows else filter (is_at at text) rows)
    by_test true more = ap (λ later. shown row ∷ later) more
    by_test false more = more

-- statements 3 and 4 show the rows that have the text in that column, in some order
shows : (at : ℕ) (text : List ℕ) (db : Trees) (rows : List Row)
    → IsAnswer (query at) (overlay db []) (Text text ∷ []) rows
    → Shows at text (db 0) rows
shows at text db rows answer =
    let kept : answer.kept ≡ map (output (query at)) answer.staged = answer.distinct in
    let moved = IsPermutation-map (λ (one : Output). one.1) answer.kept answer.ordered answer.same in
    let all = ap (shown_by at) answer.grouped ∙ matched at text (db 0) in
    let from = ap (map (λ (one : Output). one.1)) kept ∙ all in
    subst (Shows at text (db 0)) (sym answer.shown)
    (subst (λ from. IsPermutation from (map (λ (one : Output). one.1) answer.ordered)) from moved)

-- statement 3 shows the rows of the name
pub finds : (old new : State) (name : List ℕ) (rows : List Row) → old.now.schema ≡ register_schema
    → Shown find_text (Text name ∷ []) old new rows
    → Shows 1 name (old.now.trees 0) rows
finds old new name rows has shown =
    let reads =
    reads_as find_text (Text name ∷ []) old new register_schema has _ find_is find_plain find_unlisted rows shown in
    shows 1 name old.now.trees rows (reads.answer Null)

-- statement 4 those of the bill
pub shows_cusip : (old new : State) (cusip : List ℕ) (rows : List Row) → old.now.schema ≡ register_schema
    → Shown of_cusip_text (Text cusip ∷ []) old new rows
    → Shows 2 cusip (old.now.trees 0) rows
shows_cusip old new cusip rows has shown =
    let reads =
    reads_as of_cusip_text (Text cusip ∷ []) old new register_schema has _ of_cusip_is of_cusip_plain
    of_cusip_unlisted rows shown in
    shows 2 cusip old.now.trees rows (reads.answer Null)
