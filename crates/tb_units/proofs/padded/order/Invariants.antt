-- the arrays stand in the order of what is left of them
use Rattle.std.proofs.Common.{◌≡◌, ◌*◌, drop}
use Rattle.std.specs.Cmp.Lexicographic.{slice_cmp}
use Rattle.std.specs.Ordering.{nat_cmp}
use Rattle.tb_units.proofs.padded.order.Given as goal

abbrev pub invariant-words : goal.invariant-words
invariant-words l =
    slice_cmp nat_cmp l.one l.other
    ≡ slice_cmp nat_cmp (drop (8 * l.index) l.one) (drop (8 * l.index) l.other)
