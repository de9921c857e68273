use Rattle.tb_text_book.proofs.PositionLemmas.{unsigned-none}
use Rattle.tb_text_book.proofs.read_line.read_position.Goals as goal

pub returns-in_err-read_decimal-in-None-clause-none : goal.returns-in_err-read_decimal-in-None-clause-none
returns-in_err-read_decimal-in-None-clause-none c =
    rw c.from_residual.ensures
    (unsigned-none c.args.text.now c.in_err-read_decimal-in-None.ensures.none c.in-None.ensures)
