-- All of the range are changed.
use Rattle.std.proofs.Common.{sym, arith}
use Rattle.tb_blocks.proofs.counts.lower.Goals as goal

pub returns-clause-lowered : goal.returns-clause-lowered
returns-clause-lowered c =
    let i = c.loop-at.invariant in
    record {
      same = sym i.0;
      low = λ k low. sym (i.2 k low);
      mid = λ k high low. sym
          (i.3 k high (omega arith));
      high = λ k low high. sym (i.4 k low (omega arith));
    }
