-- there are places for the blocks that are wanted
use Rattle.std.proofs.Common.{◌≡◌, ◌-◌, ◌≤◌, length, vec_capacity}
use Rattle.tb_blocks.specs.Lists.{HasRoom}
use Rattle.tb_blocks.proofs.room.fill.Given as goal

abbrev pub invariant-loop-alloc : goal.invariant-loop-alloc
invariant-loop-alloc g l = record {
  free : length l.fn.pool.free.items ≤ length l.pool.free.items;
  room : HasRoom (length l.rows.blocks.items) (length l.pool.free.items) l.rows.room (vec_capacity l.pool.free);
  wanted : HasRoom (length l.rows.blocks.items) l.wanted l.rows.room (vec_capacity l.pool.free);
  same : l.rows.blocks.items ≡ l.fn.rows.blocks.items;
}

abbrev pub decreases-loop-alloc : goal.decreases-loop-alloc
decreases-loop-alloc g l = l.wanted - length l.pool.free.items
