use Rattle.std.proofs.Common.{◌≡◌, ap}
use Rattle.std.specs.Prelude.{Err}
use Rattle.tb_text_book.specs.declared.book.BookFault.TheVariants as fault
use Rattle.tb_text_book.proofs.book.add_entry.Goals as goal

pub returns-in-Err-BadLine-clause-bad : goal.returns-in-Err-BadLine-clause-bad
returns-in-Err-BadLine-clause-bad c = λ line bad. (
  (let same : fault.BadLine c.args.number ≡ fault.BadLine line = (cc) in cc),
  c.in-Err-BadLine.ensures.bad (ap Err c.in-Err-BadLine.field-0-is),
)
