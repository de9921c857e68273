-- All lines are in order, and none wait.
use Rattle.std.proofs.Common.{append-nil, arith}
use Rattle.tb_book.proofs.ApartLemmas.{apart-permutation}
use Rattle.tb_book.proofs.line_list.LineList.unseal.Goals as goal

pub invariant_of-self : goal.invariant_of-self
invariant_of-self c = record {
  order = c.settle.ensures.order;
  apart = rw (c.new.ensures.items, append-nil c.settle.new.sorted.elements)
      (apart-permutation _ _ c.settle.ensures.elements c.self.invariant.apart);
  room = rw c.new.ensures.items (omega arith);
  none = λ opened. c.new.ensures.items;
}

pub returns-clause-apart : goal.returns-clause-apart
returns-clause-apart c = (invariant_of-self c).apart
