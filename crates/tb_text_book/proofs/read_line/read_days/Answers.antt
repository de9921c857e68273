use Rattle.std.proofs.Common.{◌≡◌, arith}
use Rattle.tb_text_book.proofs.DecimalLemmas.{decimal-one}
use Rattle.tb_text_book.proofs.read_line.read_days.Goals as goal
use Rattle.tb_text_book.proofs.read_line.read_days.Goals.{
  then-count-lt1-via-then-count-lt1,
  then-count-lt1-via-else-count-lt1+then-count-gt-MOST,
}

pub returns-then-count-lt1-clause-none : goal.returns-then-count-lt1-clause-none
returns-then-count-lt1-clause-none c = λ n some few is.
    let read = c.in_ok-count.ensures.read in
    let same : c.in_ok-count.count ≡ n =
    decimal-one c.args.text.now c.in_ok-count.count n read.0 (omega arith) read.1 is in
    elim c.then-count-lt1.branch [
      | then-count-lt1-via-then-count-lt1 w ↦ omega arith
      | then-count-lt1-via-else-count-lt1+then-count-gt-MOST w ↦ omega arith
    ]
