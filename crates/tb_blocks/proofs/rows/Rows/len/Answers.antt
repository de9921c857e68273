-- The last block ends the list.
use Rattle.std.proofs.Common.{◌-◌, arith}
use Rattle.tb_blocks.proofs.RowsLemmas.{last-end}
use Rattle.tb_blocks.proofs.rows.Rows.len.Goals as goal

pub returns-in_default : goal.returns-in_default
returns-in_default g c =
    omega (
      arith,
      c.start.ensures.start,
      c.len-in_default.ensures.len,
      last-end c.args.self.now.blocks.items (c.len.result - 1) c.index.result.now
          (omega (arith, c.len.ensures, c.in_default)) c.index.ensures,
    )
