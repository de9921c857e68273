use Rattle.std.proofs.Common.{arith}
use Rattle.tb_text_book.proofs.AsciiLemmas.{Spells-read}
use Rattle.tb_text_book.proofs.read_line.read_book_line.Goals as goal

pub returns-clause-read : goal.returns-clause-read
returns-clause-read c =
    Spells-read c.args.text.now c.read_fields.result (omega arith) c.read_fields.ensures.read
