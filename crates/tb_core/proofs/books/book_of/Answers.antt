-- The book is the one of that name.
use Rattle.tb_core.proofs.OwnLemmas.{booked-found, open-found, there-found}
use Rattle.tb_core.proofs.books.book_of.Goals as goal

pub returns-clause-booked : goal.returns-clause-booked
returns-clause-booked c =
    booked-found (λ book. book.now) c.book.result c.args.tables.now c.args.auction.now c.book.ensures.some

pub returns-clause-there : goal.returns-clause-there
returns-clause-there c history tied =
    there-found (λ book. book.now) c.book.result c.args.tables.now c.args.auction.now c.book.ensures.some
    c.book.ensures.none history tied

pub returns-clause-opened : goal.returns-clause-opened
returns-clause-opened c =
    open-found (λ book. book.now) c.book.result c.args.tables.now c.args.auction.now c.book.ensures.some
