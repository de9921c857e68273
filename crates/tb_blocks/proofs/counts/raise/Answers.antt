-- All of the range are changed.
use Rattle.std.proofs.Common.{arith}
use Rattle.tb_blocks.proofs.counts.raise.Goals as goal

pub returns-clause-raised : goal.returns-clause-raised
returns-clause-raised c =
    let i = c.loop-at.invariant in
    record {
      same = i.0;
      low = i.2;
      mid = λ k high low. i.3 k high (omega arith);
      high = λ k low high. i.4 k low
          (omega arith);
    }
