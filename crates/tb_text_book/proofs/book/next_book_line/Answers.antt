use Rattle.std.proofs.Common.{◌≡◌, ℕ}
use Rattle.std.specs.Prelude.{Result, Err}
use Rattle.tb_text_book.specs.declared.book_line.BookLine.{BookLine}
use Rattle.tb_text_book.specs.declared.book.BookFault.{BookFault}
use Rattle.tb_text_book.specs.declared.book.BookFault.TheVariants as fault
use Rattle.tb_lines.specs.Lines.{current, ahead}
use Rattle.tb_text_book.proofs.BookLemmas.{ReadsLine-found, HasNoLine-unread, HasNoLine-end, HasNoLine-long}
use Rattle.tb_text_book.proofs.book.next_book_line.Goals as goal

-- the fault has the line's number
line_is : (line number : ℕ)
    → ◌≡◌ {A = Result BookLine BookFault} (Err (fault.BadLine number)) (Err (fault.BadLine line))
    → line ≡ number
line_is line number same = (cc)

pub returns-in-Some-clause-line : goal.returns-in-Some-clause-line
returns-in-Some-clause-line g c = λ text is.
    let found = (rw c.in-Line.is at c.in_ok-next_line.ensures.finds) text is in
    ReadsLine-found text (current c.next_line.new.self) _ c.in-Some.line found
    (rw c.line.ensures at c.in-Some.ensures.read)

pub returns-in-None-clause-bad : goal.returns-in-None-clause-bad
returns-in-None-clause-bad g c = λ line bad. (
  line_is line _ bad,
  c.in_ok-next_line.ensures.no_fault,
  λ text is.
      let found = (rw c.in-Line.is at c.in_ok-next_line.ensures.finds) text is in
      HasNoLine-unread text (current c.next_line.new.self) _ found (rw c.line.ensures at c.in-None.ensures.none),
)

pub returns-in-End-clause-bad : goal.returns-in-End-clause-bad
returns-in-End-clause-bad g c =
    λ line bad. (
      line_is line _ bad,
      c.in_ok-next_line.ensures.no_fault,
      λ text is. HasNoLine-end text (current c.next_line.new.self)
          (ahead c.next_line.new.self (g.I.Source.source c.next_line.new.input))
          ((rw c.in-End.is at c.in_ok-next_line.ensures.finds) text is),
    )

pub returns-in-TooLong-clause-bad : goal.returns-in-TooLong-clause-bad
returns-in-TooLong-clause-bad g c =
    λ line bad. (
      line_is line _ bad,
      c.in_ok-next_line.ensures.no_fault,
      λ text is. HasNoLine-long text (current c.next_line.new.self)
          (ahead c.next_line.new.self (g.I.Source.source c.next_line.new.input))
          ((rw c.in-TooLong.is at c.in_ok-next_line.ensures.finds) text is),
    )
