-- The line is found among those in order, or among those that wait.
use Rattle.tb_book.proofs.ListedLemmas.{found-waiting, missing-waiting}
use Rattle.tb_book.proofs.line_list.LineList.find.Goals as goal

pub returns-in-None-clause-found : goal.returns-in-None-clause-found
returns-in-None-clause-found c =
    rw (← c.self.view_is)
    (found-waiting c.args.bidder c.args.number c.find_waiting.result c.self.inside.sorted.elements
    c.self.inside.waiting.items (rw c.deref.ensures.value at c.find_waiting.ensures.found))

pub returns-in-None-clause-none : goal.returns-in-None-clause-none
returns-in-None-clause-none c =
    rw (← c.self.view_is)
    (missing-waiting c.args.bidder c.args.number c.find_waiting.result c.self.inside.sorted.elements
    c.self.inside.waiting.items c.in-None.ensures.none (rw c.deref.ensures.value at c.find_waiting.ensures.none))
