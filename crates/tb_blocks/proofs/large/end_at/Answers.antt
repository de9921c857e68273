-- What stands before the block behind the end is all.
use Rattle.std.proofs.Common.{◌+◌, arith}
use Rattle.tb_blocks.proofs.BeforeLemmas.{before-le}
use Rattle.tb_blocks.proofs.large.end_at.Goals as goal

pub returns-then-place-len-clause-before : goal.returns-then-place-len-clause-before
returns-then-place-len-clause-before g c =
    omega (
      arith,
      c.if-place-len.true,
      c.len.ensures,
      c.requires.high,
      before-le c.args.rows.now.blocks.items (c.args.at + 1),
    )
