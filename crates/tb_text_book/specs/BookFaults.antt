-- Faults of the input as faults of a book.
use Rattle.tb_lines.specs.declared.pieces.InputFault.{InputFault}
use Rattle.tb_lines.specs.declared.pieces.InputFault.TheVariants as input
use Rattle.tb_text_book.specs.declared.book.BookFault.{BookFault}
use Rattle.tb_text_book.specs.declared.book.BookFault.TheVariants as book

abbrev pub of_input : InputFault → BookFault
of_input input.Read = book.Read
of_input input.OutOfMemory = book.OutOfMemory
