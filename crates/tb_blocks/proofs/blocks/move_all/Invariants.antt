-- what is left in the vector, the last element first, goes behind what the list has
use Rattle.std.proofs.Common.{◌≡◌, ◌+◌, ◌≤◌, ◌++◌, reverse, vec_len}
use Rattle.tb_blocks.proofs.blocks.move_all.Given as goal

abbrev pub invariant-loop-element : goal.invariant-loop-element
invariant-loop-element g l = record {
  elements : l.large.elements ++ reverse l.small.items ≡ l.fn.small.items;
  room : vec_len l.small ≤ l.large.spare;
  spare : l.large.spare + vec_len l.fn.small ≡ vec_len l.small + l.fn.large.spare;
}

abbrev pub decreases-loop-element : goal.decreases-loop-element
decreases-loop-element g l = vec_len l.small
