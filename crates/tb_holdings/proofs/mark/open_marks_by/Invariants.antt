-- how many of the holder's marks before the place are open
use Rattle.std.proofs.Common.{◌≡◌, ◌-◌, ◌≤◌, length, take}
use Rattle.tb_holdings.specs.Marks.{open_marks_in}
use Rattle.tb_holdings.proofs.mark.open_marks_by.Given as goal

abbrev pub invariant-loop-place : goal.invariant-loop-place
invariant-loop-place l =
    (l.initial.place ≤ l.place)
    × (l.place ≤ length l.marks.elements)
    × (l.open ≡ open_marks_in l.holder (take l.place l.marks.elements))

abbrev pub decreases-loop-place : goal.decreases-loop-place
decreases-loop-place l = length l.marks.elements - l.place
