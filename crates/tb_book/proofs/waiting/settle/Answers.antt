-- The last line that waits goes among those in order.
use Rattle.std.proofs.Common.{[], ◌∷◌, ap, length, length-append, arith}
use Rattle.std.proofs.lemmas.List.Sorted.{IsPermutation-append_right, length_permutation}
use Rattle.tb_book.specs.Indexes.{rank_of}
use Rattle.tb_book.proofs.KeyLemmas.{earlier-lines}
use Rattle.tb_book.proofs.IndexLemmas.{HasBid-line_key, IsPermutation-inserted}
use Rattle.tb_book.proofs.ApartLemmas.{apart-permutation, moved-line, new-last}
use Rattle.tb_book.proofs.waiting.settle.Goals as goal

pub loop-line-init : goal.loop-line-init
loop-line-init c = record {
  elements = IsPermutation-append_right c.args.sorted.now.elements c.args.waiting.now.items
      c.sort_unstable_by_key.new.self.items c.sort_unstable_by_key.ensures.permutation;
  order = c.requires.order;
  spare = omega (
    arith,
    length_permutation c.args.waiting.now.items c.sort_unstable_by_key.new.self.items
        c.sort_unstable_by_key.ensures.permutation,
  );
}

pub insert-requires-clause-new : goal.insert-requires-clause-new
insert-requires-clause-new c =
    let line = c.in-Some.line in
    let sorted = c.loop-line.sorted.elements in
    λ has.
    new-last sorted c.pop.new.self.items line
    (apart-permutation _ _ (rw c.in-Some.ensures.items at c.loop-line.invariant.elements) c.requires.apart)
    (HasBid-line_key (rank_of line.rate) line.bidder line.number sorted (has.0, has.1.within, has.1.same))

pub loop-line-preserved : goal.loop-line-preserved
loop-line-preserved c = record {
  elements = moved-line _ c.loop-line.sorted.elements c.pop.new.self.items c.insert.new.self.elements c.in-Some.line
      (rw c.in-Some.ensures.items at c.loop-line.invariant.elements)
      (IsPermutation-inserted c.in-Some.line c.loop-line.sorted.elements c.insert.new.self.elements
      c.insert.ensures.inserted);
  order = earlier-lines c.insert.new.self.elements c.insert.ensures.ordered;
  spare = omega (
    arith,
    c.loop-line.invariant.spare,
    c.insert.ensures.spare,
    ap length c.in-Some.ensures.items,
    length-append c.pop.new.self.items (c.in-Some.line ∷ []),
  );
}
