use Rattle.std.proofs.Common.{arith}
use Rattle.tb_commands.proofs.HexLemmas.{length-told}
use Rattle.tb_commands.proofs.ending.not_a_journal.Goals as goal

pub push-requires : goal.push-requires
push-requires c =
    let size = length-told c.args.found.now c.loop-byte.byte-index c.loop-byte.message c.loop-byte.invariant in
    omega (arith, size)

pub push_hexadecimal-requires : goal.push_hexadecimal-requires
push_hexadecimal-requires c =
    let size = length-told c.args.found.now c.loop-byte.byte-index c.loop-byte.message c.loop-byte.invariant in
    omega (arith, size)
