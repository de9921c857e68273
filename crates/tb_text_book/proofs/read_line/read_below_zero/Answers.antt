use Rattle.std.proofs.Common.{◌∙◌, ap}
use Rattle.std.specs.Fmt.{decimal}
use Rattle.tb_text_book.proofs.PositionLemmas.{below-none, below-zero}
use Rattle.tb_text_book.proofs.read_line.read_below_zero.Goals as goal

pub returns-in_err-below-clause-none : goal.returns-in_err-below-clause-none
returns-in_err-below-clause-none c =
    rw c.from_residual.ensures (below-none c.args.digits.now c.in_err-below.ensures.none)

pub returns-then-below-eq0-clause-none : goal.returns-then-below-eq0-clause-none
returns-then-below-eq0-clause-none c =
    below-zero c.args.digits.now (c.in_ok-below.ensures.read.1 ∙ ap decimal c.if-below-eq0.true)
