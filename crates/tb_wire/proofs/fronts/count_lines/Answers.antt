use Rattle.std.proofs.Common.{arith}
use Rattle.tb_wire.proofs.LineLemmas.{no_lines}
use Rattle.tb_wire.proofs.fronts.count_lines.Goals as goal

pub returns-clause-lines : goal.returns-clause-lines
returns-clause-lines c = no_lines c.args.bytes.now c.loop-len.len (omega arith) c.loop-len.invariant.1
