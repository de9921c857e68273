-- the lines so far are among those that were given, and there is room for the others
use Rattle.std.proofs.Common.{◌+◌, ◌≤◌, length, take}
use Rattle.tb_book.specs.Books.{par_in}
use Rattle.tb_book_tests.proofs.tests.with_lines.Given as goal

abbrev pub invariant-loop-line : goal.invariant-loop-line
invariant-loop-line g l = record {
  par : par_in l.book.lines ≤ par_in (take l.line-index l.lines);
  room : length l.lines ≤ l.book.spare + l.line-index;
}
