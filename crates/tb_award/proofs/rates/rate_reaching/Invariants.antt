use Rattle.std.proofs.Common.{◌≡◌, ◌+◌, ◌*◌, ◌<◌, ◌≤◌, List, take}
use Rattle.tb_units.specs.declared.lines.RateLine.{RateLine}
use Rattle.tb_award.specs.Awards.{AreAwardsOf}
use Rattle.tb_award.specs.Cuts.{total_of}
use Rattle.tb_award.proofs.rates.rate_reaching.Given as goal

-- the awards of the lines so far are added up, and don't reach the part
abbrev pub invariant-loop-line : goal.invariant-loop-line
invariant-loop-line l = record {
  sum : (awards : List RateLine) → AreAwardsOf l.cut l.lines awards → l.sum ≡ total_of (take l.line-index awards);
  bound : l.sum ≤ total_of (take l.line-index l.lines) + 100 * l.line-index;
  short : l.sum < l.part;
}
