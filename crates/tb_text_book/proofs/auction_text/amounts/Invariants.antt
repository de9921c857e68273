use Rattle.std.proofs.Common.{take}
use Rattle.tb_text_book.proofs.AwardLemmas.{AmountsSoFar}
use Rattle.tb_text_book.proofs.auction_text.amounts.Given as goal

abbrev pub invariant-loop-place : goal.invariant-loop-place
invariant-loop-place l =
    AmountsSoFar l.cut.stop.steps l.cut.percent.hundredths (take l.place l.recognised.lines) l.sums l.amounts.items
