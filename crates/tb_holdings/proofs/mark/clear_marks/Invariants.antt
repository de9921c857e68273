-- nothing is left of the marks of the security before the place
use Rattle.std.proofs.Common.{◌≡◌, ◌++◌, length, map, take, drop}
use Rattle.tb_holdings.specs.Marks.{left_at, after_redemption}
use Rattle.tb_holdings.proofs.mark.clear_marks.Given as goal

abbrev pub invariant-loop-place : goal.invariant-loop-place
invariant-loop-place l =
    (l.marks.elements
    ≡ map (left_at (after_redemption l.security)) (take l.place l.initial.marks.elements)
    ++ drop l.place l.initial.marks.elements)
    × (length l.marks.elements ≡ length l.initial.marks.elements)
    × (l.marks.spare ≡ l.initial.marks.spare)
