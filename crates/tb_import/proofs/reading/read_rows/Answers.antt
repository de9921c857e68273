use Rattle.std.proofs.Common.{◌≡◌, ◌+◌, ◌≤◌, [], ◌∷◌, ◌++◌, length, refl, ap, subst, ◌∙◌, sym, inl, inr, arith, length-append}
use Rattle.std.specs.List.{All}
use Rattle.csv.specs.Records.{fields_of}
use Rattle.indexmap.specs.IndexSet.{insert_key}
use Rattle.tb_import.specs.Rows.{same_row}
use Rattle.tb_import.specs.Sent.{IsInRange}
use Rattle.tb_import.specs.Tables.{IsTable, header}
use Rattle.tb_import.proofs.RowLemmas.{AreRowsOf-append, first_seen-append}
use Rattle.tb_import.proofs.SentLemmas.{All-insert}
use Rattle.tb_import.proofs.TableLemmas.{bad_row, table_ends}
use Rattle.tb_import.proofs.reading.read_rows.Goals as goal

pub returns-then-not-found : goal.returns-then-not-found
returns-then-not-found c =
    let inv = c.loop-place.invariant in
    let ended = rw c.if-not-found.true at (c.in_ok-found.ensures c.args.bytes.now (header ∷ inv.0) inv.2) in
    let small : length inv.0 + 2 ≤ 1000001 = omega (arith, inv.4, c.loop-place-test.true) in
    subst (IsTable c.args.bytes.now) (sym c.of.ensures) (table_ends c.args.bytes.now inv.0 inv.1 c.loop-place.rows.keys
    c.requires.few small ended inv.3 inv.5 inv.6)

pub returns-in_default : goal.returns-in_default
returns-in_default c =
    let inv = c.loop-place.invariant in
    let more = rw c.if-not-found.false at (c.in_ok-found.ensures c.args.bytes.now (header ∷ inv.0) inv.2) in
    let small : c.loop-place.place ≤ 1000001 = omega (arith, c.loop-place-test.true) in
    bad_row c.args.bytes.now inv.0 inv.1 (fields_of c.next.new.fields) c.next.new.reader c.loop-place.place
    c.requires.few more inv.3 inv.4 small (inr (rw c.in_default.is at c.read_row.ensures.none))

pub loop-place-preserved : goal.loop-place-preserved
loop-place-preserved c =
    let inv = c.loop-place.invariant in
    let more = rw c.if-not-found.false at (c.in_ok-found.ensures c.args.bytes.now (header ∷ inv.0) inv.2) in
    let added = c.in_ok-add.ensures in
    let longer = length-append inv.0 (fields_of c.next.new.fields ∷ []) in (
      inv.0 ++ fields_of c.next.new.fields ∷ [],
      inv.1 ++ c.in-Some.row ∷ [],
      more,
      AreRowsOf-append inv.0 inv.1 (fields_of c.next.new.fields) c.in-Some.row inv.3 c.in-Some.ensures.row,
      omega (arith, inv.4, longer),
      added ∙ ap (λ k. insert_key same_row k c.in-Some.row) inv.5 ∙ sym (first_seen-append inv.1 c.in-Some.row),
      subst (All IsInRange) (sym added)
          (All-insert c.loop-place.rows.keys c.in-Some.row inv.6 c.in-Some.ensures.in_range),
    )

pub returns-then-more : goal.returns-then-more
returns-then-more c =
    let inv = c.loop-place.invariant in
    let more = rw c.if-more.true at (c.in_ok-more.ensures c.args.bytes.now (header ∷ inv.0) inv.2) in
    let last : c.loop-place.place ≡ 1000001 = omega (arith, c.loop-place-test.false, c.loop-place.auto.place-end) in
    let here : length inv.0 + 2 ≡ 1000001 = inv.4 ∙ last in
    bad_row c.args.bytes.now inv.0 inv.1 (fields_of c.next-2.new.fields) c.next-2.new.reader 1000001
    c.requires.few more inv.3 here (omega arith) (inl refl)

pub returns : goal.returns
returns c =
    let inv = c.loop-place.invariant in
    let ended = rw c.if-more.false at (c.in_ok-more.ensures c.args.bytes.now (header ∷ inv.0) inv.2) in
    let last : c.loop-place.place ≡ 1000001 = omega (arith, c.loop-place-test.false, c.loop-place.auto.place-end) in
    let small : length inv.0 + 2 ≤ 1000001 = omega (arith, inv.4, last) in
    subst (IsTable c.args.bytes.now) (sym c.of-2.ensures)
    (table_ends c.args.bytes.now inv.0 inv.1 c.loop-place.rows.keys c.requires.few small ended inv.3 inv.5 inv.6)
