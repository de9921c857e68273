use Rattle.tb_text_book.proofs.BookLineLemmas.{Says-word}
use Rattle.tb_text_book.proofs.read_line.read_fields.Goals as goal

pub returns-in_err-word_of-clause-none : goal.returns-in_err-word_of-clause-none
returns-in_err-word_of-clause-none c = rw c.from_residual.ensures (λ line says.
    let word = Says-word c.first_field.result.0.now _ line (rw c.first_field.ensures at says) in
    c.in_err-word_of.ensures.none word.0 word.1)
