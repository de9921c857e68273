-- The line waits, or goes among the others, which are all in order then.
use Rattle.std.proofs.Common.{[], ◌∷◌, ◌++◌, append-nil, append_assoc}
use Rattle.std.proofs.lemmas.List.Sorted.{IsPermutation-cons, IsPermutation-sym, IsPermutation-to_front, IsPermutation-trans}
use Rattle.tb_book.specs.Indexes.{rank_of}
use Rattle.tb_book.proofs.KeyLemmas.{earlier-lines}
use Rattle.tb_book.proofs.IndexLemmas.{HasBid-line_key, IsPermutation-inserted}
use Rattle.tb_book.proofs.ListedLemmas.{HasBid-moved}
use Rattle.tb_book.proofs.waiting.wait.Goals as goal

pub insert-requires-clause-new : goal.insert-requires-clause-new
insert-requires-clause-new c =
    let line = c.args.line in
    let sorted = c.settle.new.sorted.elements in
    λ has.
    HasBid-moved line.bidder line.number _ sorted c.settle.ensures.elements c.requires.new
    (HasBid-line_key (rank_of line.rate) line.bidder line.number sorted (has.0, has.1.within, has.1.same))

pub returns-then-len-capacity-clause-elements : goal.returns-then-len-capacity-clause-elements
returns-then-len-capacity-clause-elements c =
    let lines = c.args.sorted.now.elements ++ c.args.waiting.now.items in
    rw (
      c.push_reserved.ensures.items,
      ← append_assoc c.args.sorted.now.elements c.args.waiting.now.items (c.args.line ∷ []),
    )
    (IsPermutation-sym (lines ++ c.args.line ∷ []) (c.args.line ∷ lines) (IsPermutation-to_front lines c.args.line))

pub returns-else-len-capacity-clause-elements : goal.returns-else-len-capacity-clause-elements
returns-else-len-capacity-clause-elements c =
    let line = c.args.line in
    let settled = c.settle.new.sorted.elements in
    rw (c.settle.ensures.none, append-nil c.insert.new.self.elements)
    (IsPermutation-trans _ (line ∷ settled) c.insert.new.self.elements
    (IsPermutation-cons line _ settled c.settle.ensures.elements)
    (IsPermutation-inserted line settled c.insert.new.self.elements c.insert.ensures.inserted))

pub returns-else-len-capacity-clause-order : goal.returns-else-len-capacity-clause-order
returns-else-len-capacity-clause-order c = earlier-lines c.insert.new.self.elements c.insert.ensures.ordered
