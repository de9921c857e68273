-- the place is in a block from the low one on and below the high one
use Rattle.std.proofs.Common.{◌-◌, ◌<◌, ◌≤◌, length}
use Rattle.tb_blocks.specs.Rows.{before}
use Rattle.tb_blocks.proofs.rows.Rows.block_of.Given as goal

abbrev pub invariant-loop-high : goal.invariant-loop-high
invariant-loop-high g l = record {
  some : l.low < l.high;
  looked : 1 < l.high - l.low → (l.low < l.middle) × (l.middle < l.high);
  within : l.high ≤ length l.self.blocks.items;
  low : before l.low l.self.blocks.items ≤ l.place;
  high : l.high < length l.self.blocks.items → l.place < before l.high l.self.blocks.items;
}

abbrev pub decreases-loop-high : goal.decreases-loop-high
decreases-loop-high g l = l.high - l.low
