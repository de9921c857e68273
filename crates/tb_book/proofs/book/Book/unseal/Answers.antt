-- The sums stay, since they are the same in whatever order the lines stand.
use Rattle.std.proofs.Common.{arith}
use Rattle.tb_book.proofs.IndexLemmas.{IsIndexed-moved}
use Rattle.tb_book.proofs.book.Book.unseal.Goals as goal

pub invariant_of-self : goal.invariant_of-self
invariant_of-self c = (
  IsIndexed-moved c.self.inside.lines.opened c.unseal.new.self.opened c.self.inside.lines.lines c.unseal.new.self.lines
      c.self.inside.bidders c.self.inside.noncompetitive c.self.invariant.0 c.unseal.ensures.elements
      c.unseal.ensures.order c.unseal.ensures.apart,
  record {
    of_lines = omega (arith, c.unseal.ensures.spare, c.self.invariant.1.of_lines);
    of_bidders = c.self.invariant.1.of_bidders;
  },
)

pub returns-clause-elements : goal.returns-clause-elements
returns-clause-elements c = rw (← c.self.view_is) c.unseal.ensures.elements

pub returns-clause-kept : goal.returns-clause-kept
returns-clause-kept c = (invariant_of-self c).0.kept
