-- The competitive lines of an open book stand first, and as lines of rates they are in their order.
use Rattle.tb_book.proofs.RateLineLemmas.{AreInOrder-open_lines}
use Rattle.tb_book.proofs.book.BookLines.lines.Goals as goal

pub returns-clause-order : goal.returns-clause-order
returns-clause-order c =
    rw (← c.self.view_is)
    (AreInOrder-open_lines c.self.inside.lines.opened c.self.inside.lines.lines c.self.invariant.0.kept.order)
