-- the numbers before this one are changed, the others are as they were
use Rattle.std.proofs.Common.{◌≡◌, ℕ, ◌+◌, ◌<◌, ◌≤◌, get_or, length, vec_capacity}
use Rattle.tb_blocks.proofs.counts.raise.Given as goal

abbrev pub invariant-loop-at : goal.invariant-loop-at
invariant-loop-at l =
    (length l.numbers.items ≡ length l.fn.numbers.items)
    × (vec_capacity l.numbers ≡ vec_capacity l.fn.numbers)
    × ((k : ℕ) → k < l.fn.from → get_or l.numbers.items k 0 ≡ get_or l.fn.numbers.items k 0)
    × ((k : ℕ) → l.fn.from ≤ k → k < l.at → get_or l.numbers.items k 0 ≡ get_or l.fn.numbers.items k 0 + 1)
    × ((k : ℕ) → l.fn.from ≤ k → l.at ≤ k → get_or l.numbers.items k 0 ≡ get_or l.fn.numbers.items k 0)
