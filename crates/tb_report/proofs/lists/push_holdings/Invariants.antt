use Rattle.std.proofs.Common.{◌≡◌, ◌++◌, map, take}
use Rattle.tb_report.specs.Lines.{text_of}
use Rattle.tb_report.specs.Lists.{holding_words}
use Rattle.tb_report.proofs.lists.push_holdings.Given as goal

-- the lines so far
abbrev pub invariant-loop-holding : goal.invariant-loop-holding
invariant-loop-holding l = l.text ≡ l.fn.text ++ text_of (map holding_words (take l.holding-index l.holdings))
