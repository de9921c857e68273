-- the best pace so far is one that blocks can keep
use Rattle.tb_blocks.specs.Lists.{IsPace}
use Rattle.tb_blocks.proofs.room.best_pace.Given as goal

abbrev pub invariant-loop-pace : goal.invariant-loop-pace
invariant-loop-pace g l = IsPace l.best
