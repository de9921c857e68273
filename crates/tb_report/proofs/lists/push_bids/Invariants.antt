use Rattle.std.proofs.Common.{◌≡◌, ◌++◌, map, take}
use Rattle.tb_report.specs.Lines.{text_of}
use Rattle.tb_report.specs.Lists.{bid_words}
use Rattle.tb_report.proofs.lists.push_bids.Given as goal

-- the lines so far
abbrev pub invariant-loop-bid : goal.invariant-loop-bid
invariant-loop-bid l = l.text ≡ l.fn.text ++ text_of (map bid_words (take l.bid-index l.bids))
