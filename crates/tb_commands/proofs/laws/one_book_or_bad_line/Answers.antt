use Rattle.tb_commands.proofs.CompleteLemmas.{HasBook-good}
use Rattle.tb_commands.proofs.UniqueLemmas.{BeginsWithBook-one, bad-line-one}
use Rattle.tb_commands.proofs.SomeScriptLemmas.{book-or-bad}
use Rattle.tb_commands.proofs.laws.one_book_or_bad_line.Goals as goal

pub returns-clause-offering : goal.returns-clause-offering
returns-clause-offering c = λ lines one other book other_book is is'.
    (BeginsWithBook-one lines one other book other_book is is').offering_is

pub returns-clause-book : goal.returns-clause-book
returns-clause-book c = λ lines one other book other_book is is'.
    (BeginsWithBook-one lines one other book other_book is is').book_is

pub returns-clause-bad_line : goal.returns-clause-bad_line
returns-clause-bad_line c = bad-line-one

pub returns-clause-never_both : goal.returns-clause-never_both
returns-clause-never_both c = HasBook-good

pub returns-clause-never_neither : goal.returns-clause-never_neither
returns-clause-never_neither c = book-or-bad
