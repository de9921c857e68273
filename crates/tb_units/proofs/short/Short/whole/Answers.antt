use Rattle.std.proofs.Common.{arith}
use Rattle.tb_units.proofs.ShortLemmas.{length-decimal-le_30}
use Rattle.tb_units.proofs.short.Short.whole.Goals as goal

pub push_decimal-requires-clause-room : goal.push_decimal-requires-clause-room
push_decimal-requires-clause-room c =
    rw c.new-text.ensures (omega (arith, length-decimal-le_30 c.args.number c.requires))
