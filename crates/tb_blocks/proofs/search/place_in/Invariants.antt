-- those before the low place are below the key, and those from the high one on aren't
use Rattle.std.proofs.Common.{◌≡◌, ◌-◌, ◌<◌, ◌≤◌, true, false, length}
use Rattle.std.specs.List.{AllWithin}
use Rattle.std.specs.List.Sorted.{IsPartitionedBy}
use Rattle.tb_blocks.specs.Orders.{is_below}
use Rattle.tb_blocks.proofs.search.place_in.Given as goal

abbrev pub invariant-loop-low : goal.invariant-loop-low
invariant-loop-low g l =
    (l.low ≤ l.high) × (l.high ≤ length l.elements)
    × (l.low < l.high → (l.low ≤ l.middle) × (l.middle < l.high))
    × (IsPartitionedBy (is_below g.T.Key.Ord.cmp g.T.Keyed.key_of l.key) l.elements
    → AllWithin (λ element. is_below g.T.Key.Ord.cmp g.T.Keyed.key_of l.key element ≡ true) l.elements 0 l.low
    × AllWithin (λ element. is_below g.T.Key.Ord.cmp g.T.Keyed.key_of l.key element ≡ false) l.elements l.high
    (length l.elements))

abbrev pub decreases-loop-low : goal.decreases-loop-low
decreases-loop-low g l = l.high - l.low
