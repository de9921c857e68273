-- what was taken from the end so far stands in the other vector, the last element first
use Rattle.std.proofs.Common.{◌≡◌, ◌≤◌, reverse, take, drop, length, vec_len, vec_capacity}
use Rattle.tb_blocks.proofs.block.move_tail.Given as goal

abbrev pub invariant-loop-into : goal.invariant-loop-into
invariant-loop-into g l =
    (l.kept ≤ vec_len l.from) × (vec_len l.from ≤ length l.fn.from.items)
    × (l.from.items ≡ take (vec_len l.from) l.fn.from.items)
    × (l.into.items ≡ reverse (drop (vec_len l.from) l.fn.from.items))
    × (vec_capacity l.from ≡ vec_capacity l.fn.from) × (vec_capacity l.into ≡ vec_capacity l.fn.into)

abbrev pub decreases-loop-into : goal.decreases-loop-into
decreases-loop-into g l = vec_len l.from
