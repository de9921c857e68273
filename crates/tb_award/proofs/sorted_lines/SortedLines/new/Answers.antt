-- The sort's order is that of lines.
use Rattle.std.proofs.Common.{rules}
use Rattle.std.proofs.lemmas.List.Sorted.{answers_always}
use Rattle.tb_award.proofs.OrderLemmas.{AreInOrder-sorted}
use Rattle.tb_award.proofs.sorted_lines.SortedLines.new.Goals as goal

pub invariant_of-result : goal.invariant_of-result
invariant_of-result c =
    AreInOrder-sorted c.sort_unstable_by_key.new.self.items
    (c.sort_unstable_by_key.ensures.sorted (λ line. (line.rate.steps, line.bidder))
    (answers_always _ _ _ (λ f a r g h. search rules)))
