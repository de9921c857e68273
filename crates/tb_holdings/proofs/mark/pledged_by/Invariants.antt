-- what the holder pledged by the marks before the place
use Rattle.std.proofs.Common.{◌≡◌, ◌-◌, ◌≤◌, length, take}
use Rattle.tb_holdings.specs.Marks.{pledged_in}
use Rattle.tb_holdings.proofs.mark.pledged_by.Given as goal

abbrev pub invariant-loop-place : goal.invariant-loop-place
invariant-loop-place l =
    (l.initial.place ≤ l.place)
    × (l.place ≤ length l.marks.elements)
    × (l.pledged ≡ pledged_in l.holder l.security (take l.place l.marks.elements))

abbrev pub decreases-loop-place : goal.decreases-loop-place
decreases-loop-place l = length l.marks.elements - l.place
