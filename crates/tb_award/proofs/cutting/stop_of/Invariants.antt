use Rattle.std.proofs.Common.{◌≡◌, ◌<◌, take}
use Rattle.tb_award.specs.Cuts.{total_of}
use Rattle.tb_award.proofs.cutting.stop_of.Given as goal

-- the amounts so far are added up, and don't reach the amount sought
abbrev pub invariant-loop-line : goal.invariant-loop-line
invariant-loop-line l = record {
  sum : l.total ≡ total_of (take l.line-index l.lines);
  short : l.total < l.sought.value;
}
