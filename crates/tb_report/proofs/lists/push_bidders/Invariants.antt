use Rattle.std.proofs.Common.{◌≡◌, ◌++◌, map, take}
use Rattle.tb_report.specs.Lines.{text_of}
use Rattle.tb_report.specs.Lists.{bidder_words}
use Rattle.tb_report.proofs.lists.push_bidders.Given as goal

-- the lines so far
abbrev pub invariant-loop-award : goal.invariant-loop-award
invariant-loop-award l = l.text ≡ l.fn.text ++ text_of (map bidder_words (take l.award-index l.awards))
