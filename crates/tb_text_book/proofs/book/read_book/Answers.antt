use Rattle.std.proofs.Common.{◌≡◌, ◌∙◌, ℕ, [], ap, refl, subst, sym}
use Rattle.std.specs.Prelude.{Err}
use Rattle.std.proofs.lemmas.Result.{err_from_is_err_and}
use Rattle.tb_text_book.specs.BookReading.{AreSomeEntries, EndsEntries, ReadsBadLine, ReadsBook, StopsEntries}
use Rattle.tb_text_book.specs.SoundLines.{IsSoundOffering}
use Rattle.std.specs.Str.Lines.{lines}
use Rattle.tb_lines.specs.Lines.{ahead}
use Rattle.tb_lines.specs.Reads.{CutsOpen, LeavesOpen}
use Rattle.tb_text_book.specs.declared.book.BookFault.TheVariants as fault
use Rattle.tb_text_book.specs.declared.book_line.Offering.{Offering}
use Rattle.tb_text_book.proofs.ReadLemmas.{ahead-start, CutsOpen-first, CutsOpen-later, IsBadLine-first, LeavesOpen-later, ReadState, ReadsBadLine-later, ReadsBook-read, IsSoundOffering-line}
use Rattle.tb_lines.proofs.ReadsLemmas.{ReadsNoMore-then}
use Rattle.tb_text_book.proofs.book.read_book.Goals as goal

pub returns-in_default : goal.returns-in_default
returns-in_default g c = record {
  book = tt;
  no_fault = tt;
  bad = λ line bad. record {
    no_fault = c.in_ok-offering.ensures.no_fault;
    told = λ text is.
        let source = g.I.Source.source in
        let number : 1 ≡ line = (let same : fault.BadLine 1 ≡ fault.BadLine line = (cc) in cc) in
        let told = ahead-start c.new-reader.result (source c.args.input.now) text c.new-reader.ensures.empty
        c.new-reader.ensures.going is in
        subst (λ (n : ℕ). ReadsBadLine n (source c.args.input.now).reads (source c.next_book_line.new.input).reads text)
        number
        (record {
          bad = IsBadLine-first text c.in_ok-offering.field-0
              (ahead c.next_book_line.new.reader (source c.next_book_line.new.input))
              (c.in_ok-offering.ensures.line text told) c.in_default.not-Offering;
          reads = c.next_book_line.ensures.alone text told;
        });
  };
  fault = λ bad. absurd (let same : fault.BadLine 1 ≡ fault.Read = (cc) in cc);
  failed = λ bad. absurd (let same : fault.BadLine 1 ≡ fault.Read = (cc) in cc);
  lacked = λ bad. absurd (let same : fault.BadLine 1 ≡ fault.OutOfMemory = (cc) in cc);
  count = c.next_book_line.ensures.count;
}

pub returns-in_err-read_entries-clause-bad : goal.returns-in_err-read_entries-clause-bad
returns-in_err-read_entries-clause-bad g c =
    let p = err_from_is_err_and c.from_residual-in_err-read_entries.result
    c.from_residual-in_err-read_entries.ensures.1 in
    rw (p.1, p.2) (λ line bad.
    let source = g.I.Source.source in
    let middle : ReadState =
    record { reader = c.next_book_line.new.reader; source = source c.next_book_line.new.input } in
    let before = (source c.args.input.now).reads in
    let between = (source c.next_book_line.new.input).reads in
    let after = (source c.read_entries.new.input).reads in
    let stops = c.in_err-read_entries.ensures.bad line
    (let same : c.in_err-read_entries.field-0.0 ≡ fault.BadLine line = (cc) in ap Err same) in
    record {
      no_fault = stops.0 ∙ c.in_ok-offering.ensures.no_fault;
      told = λ text is.
          let told = ahead-start c.new-reader.result (source c.args.input.now) text c.new-reader.ensures.empty
          c.new-reader.ensures.going is in
          ReadsBadLine-later line text c.in-Offering.offering before between after middle
          ((rw c.in-Offering.is at c.in_ok-offering.ensures.line) text told)
          (c.in_ok-offering.ensures.reads text told) (λ ended. (c.read_entries.ensures.once ended).1)
          (λ t told_is. subst (λ (o : Offering). StopsEntries line between after o t) c.new-book.ensures.offering
          (stops.1 t told_is));
    })

pub returns-clause-book : goal.returns-clause-book
returns-clause-book g c =
    let source = g.I.Source.source in
    let has = c.in_ok-read_entries.ensures.book in
    let offering = c.read_entries.ensures.offering ∙ c.new-book.ensures.offering in
    let behind = ahead c.next_book_line.new.reader (source c.next_book_line.new.input) in
    let rest = ahead c.read_entries.new.reader (source c.read_entries.new.input) in
    let before = (source c.args.input.now).reads in
    let between = (source c.next_book_line.new.input).reads in
    let after = (source c.read_entries.new.input).reads in
    record {
      book = has.book;
      is_kept = record {
        tally = has.tally;
        few = has.few;
        offered = subst IsSoundOffering (sym offering)
            (IsSoundOffering-line c.in-Offering.offering (rw c.in-Offering.is at c.in_ok-offering.ensures.spelled));
      };
      read = λ text is.
          let told = ahead-start c.new-reader.result (source c.args.input.now) text c.new-reader.ensures.empty
          c.new-reader.ensures.going is in
          subst (λ (o : Offering). ReadsBook before after o has.book text) (sym offering)
          (ReadsBook-read before after c.read_entries.new.reader.pieces.ended text c.in-Offering.offering has.book behind rest
          ((rw c.in-Offering.is at c.in_ok-offering.ensures.line) text told)
          (λ t told_is. subst (λ (o : Offering). EndsEntries o has.book rest t) offering (has.ends t told_is))
          (ReadsNoMore-then before between after c.next_book_line.new.reader.pieces.ended behind text
          (c.in_ok-offering.ensures.reads text told) (λ ended. (c.read_entries.ensures.once ended).1)
          c.read_entries.new.reader.pieces.ended rest c.in_ok-read_entries.ensures.reads
          (λ ended. (c.read_entries.ensures.once ended).0)));
    }

pub returns-in_err-offering-clause-failed : goal.returns-in_err-offering-clause-failed
returns-in_err-offering-clause-failed g c =
    let source = g.I.Source.source in
    let next : ReadState =
    record { reader = c.next_book_line.new.reader; source = source c.next_book_line.new.input } in
    let p = err_from_is_err_and c.from_residual.result c.from_residual.ensures.1 in
    rw (p.1, p.2) (λ bad text is.
    let told = ahead-start c.new-reader.result (source c.args.input.now) text c.new-reader.ensures.empty
    c.new-reader.ensures.going is in
    let cut = c.in_err-offering.ensures.failed
    (let same : c.in_err-offering.field-0.0 ≡ fault.Read = (cc) in ap Err same) in
    CutsOpen-first (source c.args.input.now).reads (source c.next_book_line.new.input).reads next text (cut.0 ∙ told)
    cut.1 cut.2 (c.next_book_line.ensures.alone text told))

pub returns-in_err-offering-clause-lacked : goal.returns-in_err-offering-clause-lacked
returns-in_err-offering-clause-lacked g c =
    let source = g.I.Source.source in
    let p = err_from_is_err_and c.from_residual.result c.from_residual.ensures.1 in
    rw (p.1, p.2) (λ bad. record {
      no_fault = c.in_err-offering.ensures.lacked
          (let same : c.in_err-offering.field-0.0 ≡ fault.OutOfMemory = (cc) in ap Err same);
      told = λ text is.
          let told = ahead-start c.new-reader.result (source c.args.input.now) text c.new-reader.ensures.empty
          c.new-reader.ensures.going is in
          record {
            front = [];
            rest = lines text;
            lines_are = refl;
            is_open = tt;
            reads = c.next_book_line.ensures.alone text told;
          };
    })

pub returns-in_err-read_entries-clause-failed : goal.returns-in_err-read_entries-clause-failed
returns-in_err-read_entries-clause-failed g c =
    let p = err_from_is_err_and c.from_residual-in_err-read_entries.result
    c.from_residual-in_err-read_entries.ensures.1 in
    rw (p.1, p.2) (λ bad text is.
    let source = g.I.Source.source in
    let middle : ReadState =
    record { reader = c.next_book_line.new.reader; source = source c.next_book_line.new.input } in
    let before = (source c.args.input.now).reads in
    let between = (source c.next_book_line.new.input).reads in
    let after = (source c.read_entries.new.input).reads in
    let left = (source c.read_entries.new.input).left in
    let told = ahead-start c.new-reader.result (source c.args.input.now) text c.new-reader.ensures.empty
    c.new-reader.ensures.going is in
    let cut = c.in_err-read_entries.ensures.failed
    (let same : c.in_err-read_entries.field-0.0 ≡ fault.Read = (cc) in ap Err same) in
    CutsOpen-later text c.in-Offering.offering before between after middle
    ((rw c.in-Offering.is at c.in_ok-offering.ensures.line) text told) (c.in_ok-offering.ensures.reads text told)
    (λ ended. (c.read_entries.ensures.once ended).1) left
    (λ t told_is. subst (λ (o : Offering). CutsOpen (AreSomeEntries o) between after left t) c.new-book.ensures.offering
    (cut t told_is)))

pub returns-in_err-read_entries-clause-lacked : goal.returns-in_err-read_entries-clause-lacked
returns-in_err-read_entries-clause-lacked g c =
    let p = err_from_is_err_and c.from_residual-in_err-read_entries.result
    c.from_residual-in_err-read_entries.ensures.1 in
    rw (p.1, p.2) (λ bad.
    let source = g.I.Source.source in
    let middle : ReadState =
    record { reader = c.next_book_line.new.reader; source = source c.next_book_line.new.input } in
    let before = (source c.args.input.now).reads in
    let between = (source c.next_book_line.new.input).reads in
    let after = (source c.read_entries.new.input).reads in
    let none = c.in_err-read_entries.ensures.lacked
    (let same : c.in_err-read_entries.field-0.0 ≡ fault.OutOfMemory = (cc) in ap Err same) in
    record {
      no_fault = none.0 ∙ c.in_ok-offering.ensures.no_fault;
      told = λ text is.
          let told = ahead-start c.new-reader.result (source c.args.input.now) text c.new-reader.ensures.empty
          c.new-reader.ensures.going is in
          LeavesOpen-later text c.in-Offering.offering before between after middle
          ((rw c.in-Offering.is at c.in_ok-offering.ensures.line) text told)
          (c.in_ok-offering.ensures.reads text told) (λ ended. (c.read_entries.ensures.once ended).1)
          (λ t told_is. subst (λ (o : Offering). LeavesOpen (AreSomeEntries o) between after t)
          c.new-book.ensures.offering (none.1 t told_is));
    })
