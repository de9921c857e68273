-- The sort's order is that of lines.
use Rattle.std.proofs.Common.{rules, is_lt}
use Rattle.std.proofs.lemmas.List.Sorted.{answers_always}
use Rattle.tb_units.specs.declared.lines.RateLine.{RateLine}
use Rattle.tb_award.proofs.OrderLemmas.{AreInOrder-sorted}
use Rattle.tb_text_book.specs.TextLines.{compared}
use Rattle.tb_text_book.proofs.TextLineLemmas.{compared-ranks}
use Rattle.tb_text_book.proofs.text_line.OrderedLines.new.Goals as goal

pub invariant_of-result : goal.invariant_of-result
invariant_of-result c =
    AreInOrder-sorted c.sort_unstable_by.new.self.items
    (c.sort_unstable_by.ensures.sorted (λ (one : RateLine) (other : RateLine). is_lt (compared one other))
    compared-ranks (answers_always _ _ _ (λ f a r g h. search rules)))
