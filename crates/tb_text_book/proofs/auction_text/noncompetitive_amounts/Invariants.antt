use Rattle.std.proofs.Common.{◌≡◌, take}
use Rattle.tb_text_book.proofs.auction_text.noncompetitive_amounts.Given as goal

-- the sums so far
abbrev pub invariant-loop-sum : goal.invariant-loop-sum
invariant-loop-sum l = l.amounts.items ≡ take l.sum-index l.sums
