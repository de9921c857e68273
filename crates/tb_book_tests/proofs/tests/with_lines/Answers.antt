-- What a line adds is within what all that are given have.
use Rattle.std.proofs.Common.{ap, arith}
use Rattle.std.proofs.lemmas.List.Sums.{sum_by_more_le}
use Rattle.tb_book.specs.declared.book_line.BookLine.{BookLine}
use Rattle.tb_book_tests.proofs.tests.with_lines.Goals as goal

pub add_new-requires-clause-fits : goal.add_new-requires-clause-fits
add_new-requires-clause-fits g c =
    let line = c.line-item.result in
    omega (
      arith,
      c.loop-line.invariant.par,
      c.requires.fits,
      sum_by_more_le (λ (one : BookLine). one.amount.value) c.args.lines.now c.loop-line.line-index line
          c.loop-line-test.true,
      ap (λ (one : BookLine). one.amount.value) c.line-item.is,
    )
