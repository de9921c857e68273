use Rattle.std.proofs.Common.{◌≡◌, ℕ, ◌+◌, ap, subst, sym, ◌∙◌, refl, arith}
use Rattle.std.specs.Prelude.{Err}
use Rattle.std.proofs.lemmas.Result.{err_from_is_err_and}
use Rattle.tb_text_book.specs.Books.{Adds, empty_book}
use Rattle.tb_text_book.specs.BookReading.{EndsEntries, StopsEntries}
use Rattle.tb_lines.specs.Lines.{ahead}
use Rattle.tb_text_book.specs.declared.book.BookFault.TheVariants as fault
use Rattle.tb_text_book.specs.declared.book_line.BookLine.TheVariants as kind
use Rattle.tb_text_book.specs.declared.book_line.Offering.{Offering}
use Rattle.tb_text_book.proofs.ReadLemmas.{Adds-names, Adds-size, CutsOpen-here, EndsEntries-here, HasEntries-more, HasEntries-start, LeavesOpen-here, ReadState, StopsEntries-full, StopsEntries-here, StopsEntries-unread, to_come, wrong_entry, wrong_offering}
use Rattle.tb_lines.proofs.ReadsLemmas.{ReadsNoMore-start, ReadsNoMore-then}
use Rattle.tb_text_book.proofs.book.read_entries.Goals as goal

pub loop-read-init : goal.loop-read-init
loop-read-init g c =
    let first : ReadState = record { reader = c.args.reader.now; source = g.I.Source.source c.args.input.now } in
    record {
      book = empty_book;
      same = refl;
      tally = c.requires.empty;
      read = λ text is. record {
        has = HasEntries-start c.args.book.now.offering (to_come first) text is;
        reads = ReadsNoMore-start first.source.reads first.reader.pieces.ended (to_come first) text is;
      };
      size = refl;
      few = omega arith;
      no_fault = refl;
      once = λ ended. (ended, refl);
    }

pub loop-read-preserved : goal.loop-read-preserved
loop-read-preserved g c =
    let source = g.I.Source.source in
    let first : ReadState = record { reader = c.args.reader.now; source = source c.args.input.now } in
    let now : ReadState = record { reader = c.loop-read.reader; source = source c.loop-read.input } in
    let next : ReadState =
    record { reader = c.next_book_line.new.reader; source = source c.next_book_line.new.input } in
    let so_far = c.loop-read.invariant in
    let line = c.in_ok-entry.ensures in
    let more = c.in_ok-add_entry-in-Entry.ensures.added so_far.book so_far.tally in
    let adds : Adds c.args.book.now.offering so_far.book c.in-Entry.entry more.0 =
    subst (λ (o : Offering). Adds o so_far.book c.in-Entry.entry more.0) so_far.same more.1 in
    record {
      book = more.0;
      same = c.add_entry.ensures.offering ∙ so_far.same;
      tally = more.2;
      read = λ text is. let read = so_far.read text is in record {
        has = HasEntries-more c.loop-read.read c.args.book.now.offering so_far.book more.0 c.in-Entry.entry
            (to_come now) (to_come next) text read.has (rw c.in-Entry.is at line.line) adds;
        reads = ReadsNoMore-then first.source.reads now.source.reads next.source.reads now.reader.pieces.ended (to_come now)
            text read.reads (λ ended. (line.once ended).1) next.reader.pieces.ended (to_come next) line.reads
            (λ ended. (line.once ended).0);
      };
      size = omega (arith, Adds-size c.args.book.now.offering so_far.book more.0 c.in-Entry.entry adds, so_far.size);
      few = omega (
        arith,
        Adds-size c.args.book.now.offering so_far.book more.0 c.in-Entry.entry adds,
        Adds-names
            c.args.book.now.offering so_far.book more.0 c.in-Entry.entry adds,
        so_far.few,
      );
      no_fault = line.no_fault ∙ so_far.no_fault;
      once = λ ended.
          let still = so_far.once ended in
          let stays = line.once still.0 in
          (stays.0, stays.1 ∙ still.1);
    }

pub returns-in_err-entry-clause-bad : goal.returns-in_err-entry-clause-bad
returns-in_err-entry-clause-bad g c =
    let source = g.I.Source.source in
    let first : ReadState = record { reader = c.args.reader.now; source = source c.args.input.now } in
    let now : ReadState = record { reader = c.loop-read.reader; source = source c.loop-read.input } in
    let next : ReadState =
    record { reader = c.next_book_line.new.reader; source = source c.next_book_line.new.input } in
    let p = err_from_is_err_and c.from_residual.result c.from_residual.ensures.1 in
    rw (p.1, p.2) (λ line bad.
    let so_far = c.loop-read.invariant in
    let none = c.in_err-entry.ensures.bad line
    (let same : c.in_err-entry.field-0.0 ≡ fault.BadLine line = (cc) in ap Err same) in (
      none.1 ∙ so_far.no_fault,
      λ text is. subst (λ (n : ℕ). StopsEntries n first.source.reads next.source.reads c.args.book.now.offering text)
          (sym none.0)
          (StopsEntries-unread c.loop-read.read c.args.book.now.offering so_far.book first now next text
          (so_far.read text is) c.next_book_line.ensures.alone c.next_book_line.ensures.once (omega arith) none.2),
    ))

pub returns-in_err-add_entry-in-Entry-clause-bad : goal.returns-in_err-add_entry-in-Entry-clause-bad
returns-in_err-add_entry-in-Entry-clause-bad g c =
    let source = g.I.Source.source in
    let first : ReadState = record { reader = c.args.reader.now; source = source c.args.input.now } in
    let now : ReadState = record { reader = c.loop-read.reader; source = source c.loop-read.input } in
    let next : ReadState =
    record { reader = c.next_book_line.new.reader; source = source c.next_book_line.new.input } in
    let p = err_from_is_err_and c.from_residual-in_err-add_entry-in-Entry.result
    c.from_residual-in_err-add_entry-in-Entry.ensures.1 in
    rw (p.1, p.2) (λ line bad.
    let so_far = c.loop-read.invariant in
    let none = c.in_err-add_entry-in-Entry.ensures.bad line
    (let same : c.in_err-add_entry-in-Entry.field-0.0 ≡ fault.BadLine line = (cc) in ap Err same) in (
      c.in_ok-entry.ensures.no_fault ∙ so_far.no_fault,
      λ text is. subst (λ (n : ℕ). StopsEntries n first.source.reads next.source.reads c.args.book.now.offering text)
          (sym none.0)
          (StopsEntries-here c.loop-read.read c.args.book.now.offering so_far.book first now next text
          (so_far.read text is) c.next_book_line.ensures.alone c.next_book_line.ensures.once (omega arith)
          (kind.Entry c.in-Entry.entry) (rw c.in-Entry.is at c.in_ok-entry.ensures.line)
          (wrong_entry c.args.book.now.offering so_far.book c.in-Entry.entry
          (λ new adds. none.1 so_far.book so_far.tally new
          (subst (λ (o : Offering). Adds o so_far.book c.in-Entry.entry new) (sym so_far.same) adds)))),
    ))

pub returns-in-End-clause-book : goal.returns-in-End-clause-book
returns-in-End-clause-book g c =
    let so_far = c.loop-read.invariant in
    record {
      book = so_far.book;
      tally = so_far.tally;
      few = omega (arith, so_far.size);
      ends = λ text is. subst (λ (o : Offering). EndsEntries o so_far.book
          (ahead c.next_book_line.new.reader (g.I.Source.source c.next_book_line.new.input)) text) (sym so_far.same)
          (EndsEntries-here c.loop-read.read c.args.book.now.offering so_far.book
          (ahead c.loop-read.reader (g.I.Source.source c.loop-read.input))
          (ahead c.next_book_line.new.reader (g.I.Source.source c.next_book_line.new.input)) text
          (so_far.read text is).has (rw c.in-End.is at c.in_ok-entry.ensures.line) (omega arith));
    }

pub returns-in-End-clause-reads : goal.returns-in-End-clause-reads
returns-in-End-clause-reads g c = λ text is.
    let so_far = c.loop-read.invariant in
    let line = c.in_ok-entry.ensures in
    ReadsNoMore-then (g.I.Source.source c.args.input.now).reads (g.I.Source.source c.loop-read.input).reads
    (g.I.Source.source c.next_book_line.new.input).reads c.loop-read.reader.pieces.ended
    (ahead c.loop-read.reader (g.I.Source.source c.loop-read.input)) text (so_far.read text is).reads
    (λ ended. (line.once ended).1) c.next_book_line.new.reader.pieces.ended
    (ahead c.next_book_line.new.reader (g.I.Source.source c.next_book_line.new.input)) line.reads
    (λ ended. (line.once ended).0)

pub returns-in-Offering-clause-bad : goal.returns-in-Offering-clause-bad
returns-in-Offering-clause-bad g c = λ line bad.
    let source = g.I.Source.source in
    let first : ReadState = record { reader = c.args.reader.now; source = source c.args.input.now } in
    let now : ReadState = record { reader = c.loop-read.reader; source = source c.loop-read.input } in
    let next : ReadState =
    record { reader = c.next_book_line.new.reader; source = source c.next_book_line.new.input } in
    let so_far = c.loop-read.invariant in
    let number : line ≡ c.loop-read.read + 1 =
    (let same : fault.BadLine (c.loop-read.read + 1) ≡ fault.BadLine line = (cc) in cc) in (
      c.in_ok-entry.ensures.no_fault ∙ so_far.no_fault,
      λ text is. subst (λ (n : ℕ). StopsEntries n first.source.reads next.source.reads c.args.book.now.offering text)
          (sym number)
          (StopsEntries-here c.loop-read.read c.args.book.now.offering so_far.book first now next text
          (so_far.read text is) c.next_book_line.ensures.alone c.next_book_line.ensures.once (omega arith)
          (kind.Offering _) (rw c.in-Offering.is at c.in_ok-entry.ensures.line)
          (wrong_offering c.args.book.now.offering so_far.book _)),
    )

pub returns-clause-bad : goal.returns-clause-bad
returns-clause-bad g c = λ line bad.
    let source = g.I.Source.source in
    let first : ReadState = record { reader = c.args.reader.now; source = source c.args.input.now } in
    let now : ReadState = record { reader = c.loop-read.reader; source = source c.loop-read.input } in
    let so_far = c.loop-read.invariant in
    let number : line ≡ 1000001 = (let same : fault.BadLine 1000001 ≡ fault.BadLine line = (cc) in cc) in (
      so_far.no_fault,
      λ text is. subst (λ (n : ℕ). StopsEntries n first.source.reads now.source.reads c.args.book.now.offering text)
          (let whole : c.loop-read.read + 1 ≡ line = omega (arith, number) in whole)
          (StopsEntries-full c.loop-read.read c.args.book.now.offering so_far.book first now text (so_far.read text is)
          (omega arith)),
    )

pub returns-in_err-entry-clause-failed : goal.returns-in_err-entry-clause-failed
returns-in_err-entry-clause-failed g c =
    let source = g.I.Source.source in
    let first : ReadState = record { reader = c.args.reader.now; source = source c.args.input.now } in
    let now : ReadState = record { reader = c.loop-read.reader; source = source c.loop-read.input } in
    let next : ReadState =
    record { reader = c.next_book_line.new.reader; source = source c.next_book_line.new.input } in
    let so_far = c.loop-read.invariant in
    let p = err_from_is_err_and c.from_residual.result c.from_residual.ensures.1 in
    rw (p.1, p.2) (λ bad text is.
    let cut = c.in_err-entry.ensures.failed
    (let same : c.in_err-entry.field-0.0 ≡ fault.Read = (cc) in ap Err same) in
    CutsOpen-here c.loop-read.read c.args.book.now.offering so_far.book first now next text (so_far.read text is)
    c.next_book_line.ensures.alone c.next_book_line.ensures.once (omega arith) cut.0 cut.1 cut.2)

pub returns-in_err-entry-clause-lacked : goal.returns-in_err-entry-clause-lacked
returns-in_err-entry-clause-lacked g c =
    let source = g.I.Source.source in
    let first : ReadState = record { reader = c.args.reader.now; source = source c.args.input.now } in
    let now : ReadState = record { reader = c.loop-read.reader; source = source c.loop-read.input } in
    let next : ReadState =
    record { reader = c.next_book_line.new.reader; source = source c.next_book_line.new.input } in
    let so_far = c.loop-read.invariant in
    let p = err_from_is_err_and c.from_residual.result c.from_residual.ensures.1 in
    rw (p.1, p.2) (λ bad.
    let none = c.in_err-entry.ensures.lacked
    (let same : c.in_err-entry.field-0.0 ≡ fault.OutOfMemory = (cc) in ap Err same) in (
      none ∙ so_far.no_fault,
      λ text is. LeavesOpen-here c.loop-read.read c.args.book.now.offering so_far.book first now next text
          (so_far.read text is) c.next_book_line.ensures.alone c.next_book_line.ensures.once (omega arith),
    ))

pub returns-in_err-add_entry-in-Entry-clause-lacked : goal.returns-in_err-add_entry-in-Entry-clause-lacked
returns-in_err-add_entry-in-Entry-clause-lacked g c = λ bad.
    let source = g.I.Source.source in
    let first : ReadState = record { reader = c.args.reader.now; source = source c.args.input.now } in
    let now : ReadState = record { reader = c.loop-read.reader; source = source c.loop-read.input } in
    let next : ReadState =
    record { reader = c.next_book_line.new.reader; source = source c.next_book_line.new.input } in
    let so_far = c.loop-read.invariant in (
      c.in_ok-entry.ensures.no_fault ∙ so_far.no_fault,
      λ text is. LeavesOpen-here c.loop-read.read c.args.book.now.offering so_far.book first now next text
          (so_far.read text is) c.next_book_line.ensures.alone c.next_book_line.ensures.once (omega arith),
    )
