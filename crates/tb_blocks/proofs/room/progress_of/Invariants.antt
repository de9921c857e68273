-- the blocks so far are added up
use Rattle.std.proofs.Common.{◌≡◌, ◌+◌, ◌≤◌, ◌*◌, take}
use Rattle.tb_blocks.specs.Sizes.{progress_of, block_size}
use Rattle.tb_blocks.proofs.room.progress_of.Given as goal

abbrev pub invariant-loop-block : goal.invariant-loop-block
invariant-loop-block g l = (l.sum ≡ progress_of l.pace (take l.block-index l.blocks))
    × (l.sum ≤ (block_size + 1) * l.block-index)
