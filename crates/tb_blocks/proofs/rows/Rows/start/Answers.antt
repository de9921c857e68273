-- The number before the block's group and the one within it are its own.
use Rattle.std.proofs.Common.{arith}
use Rattle.tb_blocks.proofs.CountsLemmas.{start-read, before-fits}
use Rattle.tb_blocks.proofs.rows.Rows.start.Goals as goal

pub overflow_add-result : goal.overflow_add-result
overflow_add-result g c =
    let s = c.args.self.now in
    omega (
      arith,
      start-read s.groups.items s.starts.items s.blocks.items c.args.at c.index.result.now
          c.index-2.result.now s.rows c.requires c.index.ensures c.index-2.ensures,
      before-fits s.groups.items s.starts.items s.blocks.items c.args.at s.rows,
    )

pub returns-clause-start : goal.returns-clause-start
returns-clause-start g c =
    let s = c.args.self.now in
    start-read s.groups.items s.starts.items s.blocks.items c.args.at c.index.result.now c.index-2.result.now s.rows
    c.requires c.index.ensures c.index-2.ensures

pub returns-clause-fits : goal.returns-clause-fits
returns-clause-fits g c =
    let s = c.args.self.now in
    omega (
      arith,
      start-read s.groups.items s.starts.items s.blocks.items c.args.at c.index.result.now
          c.index-2.result.now s.rows c.requires c.index.ensures c.index-2.ensures,
      before-fits s.groups.items s.starts.items s.blocks.items c.args.at s.rows,
    )
