-- The book is that at the place of the name.
use Rattle.std.proofs.Common.{◌∙◌, sym}
use Rattle.tb_shelf.proofs.ChangeLemmas.{book_in-at, book_in-none}
use Rattle.tb_shelf.proofs.finding.find.Goals as goal

pub returns-in-Some-clause-some : goal.returns-in-Some-clause-some
returns-in-Some-clause-some c =
    book_in-at c.args.books.now c.args.auction.now c.in-Some.place c.index-books-place.result
    (sym (c.place_of.ensures.book c.args.books.now c.requires.names) ∙ c.in-Some.is)

pub returns-in-None-clause-none : goal.returns-in-None-clause-none
returns-in-None-clause-none c =
    book_in-none c.args.books.now c.args.auction.now
    (sym (c.place_of.ensures.book c.args.books.now c.requires.names) ∙ c.in-None.is)
