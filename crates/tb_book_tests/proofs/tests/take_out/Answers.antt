-- There is no more par than before.
use Rattle.tb_book.proofs.CallerLemmas.{par-left}
use Rattle.tb_book_tests.proofs.tests.take_out.Goals as goal

pub returns : goal.returns
returns c = par-left c.take_out.result c.args.book.now c.take_out.new.self c.take_out.ensures.elements
    c.take_out.ensures.unchanged
