use Rattle.tb_text_book.proofs.FieldLemmas.{fields_of-not_none}
use Rattle.tb_text_book.proofs.read_line.read_end.Goals as goal

pub returns-in-Some : goal.returns-in-Some
returns-in-Some c = fields_of-not_none c.args.others c.in-Some.field-0 c.in-Some.is
