use Rattle.std.proofs.Common.{take}
use Rattle.tb_award.specs.Stops.{AwardsSumTo}
use Rattle.tb_award.proofs.rates.sum_of.Given as goal

-- the awards of the lines so far are added up
abbrev pub invariant-loop-line : goal.invariant-loop-line
invariant-loop-line l = AwardsSumTo l.cut (take l.line-index l.lines) l.sum
