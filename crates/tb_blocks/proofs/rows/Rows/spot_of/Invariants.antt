-- what stands before the low block is below the key, and what stands from the high one on isn't
use Rattle.std.proofs.Common.{◌≡◌, ◌-◌, ◌<◌, ◌≤◌, true, false, length}
use Rattle.std.specs.List.{AllWithin}
use Rattle.std.specs.List.Sorted.{IsPartitionedBy}
use Rattle.tb_blocks.specs.Orders.{is_below}
use Rattle.tb_blocks.specs.Rows.{joined, before}
use Rattle.tb_blocks.proofs.rows.Rows.spot_of.Given as goal

abbrev pub invariant-loop-high : goal.invariant-loop-high
invariant-loop-high g l = record {
  some : l.low < l.high;
  looked : 1 < l.high - l.low → (l.low < l.middle) × (l.middle < l.high);
  within : l.high ≤ length l.self.blocks.items;
  halves : IsPartitionedBy (is_below g.T.Key.Ord.cmp g.T.Keyed.key_of l.key) (joined l.self.blocks.items)
      → AllWithin (λ element. is_below g.T.Key.Ord.cmp g.T.Keyed.key_of l.key element ≡ true)
      (joined l.self.blocks.items) 0 (before l.low l.self.blocks.items)
      × AllWithin (λ element. is_below g.T.Key.Ord.cmp g.T.Keyed.key_of l.key element ≡ false)
      (joined l.self.blocks.items) (before l.high l.self.blocks.items) (length (joined l.self.blocks.items));
}

abbrev pub decreases-loop-high : goal.decreases-loop-high
decreases-loop-high g l = l.high - l.low
