-- A group that isn't there begins behind all elements.
use Rattle.std.proofs.Common.{◌*◌, ◌<◌, ◌∙◌, length, arith}
use Rattle.std.proofs.lemmas.List.{get_or_default}
use Rattle.tb_blocks.specs.Sizes.{group_size}
use Rattle.tb_blocks.proofs.BeforeLemmas.{before-end}
use Rattle.tb_blocks.proofs.CountsLemmas.{before-fits, joined-fits}
use Rattle.tb_blocks.proofs.rows.Rows.group_start.Goals as goal

pub returns-then-group-len-clause-fits : goal.returns-then-group-len-clause-fits
returns-then-group-len-clause-fits g c =
    let s = c.args.self.now in
    let there : c.args.group < length s.groups.items = omega (arith, c.if-group-len.true, c.len.ensures) in
    omega (
      arith,
      c.index.ensures ∙ get_or_default s.groups.items c.args.group c.index.result.now 0 there,
      s.rows.counted.by_group c.args.group there,
      before-fits s.groups.items s.starts.items s.blocks.items (group_size * c.args.group) s.rows,
    )

pub returns-else-group-len-clause-start : goal.returns-else-group-len-clause-start
returns-else-group-len-clause-start g c =
    let s = c.args.self.now in
    omega (
      arith,
      c.len-else-group-len.ensures,
      before-end s.blocks.items (group_size * c.args.group)
          (omega (arith, c.if-group-len.false, c.len.ensures, s.rows.counted.grouped)),
    )

pub returns-else-group-len-clause-fits : goal.returns-else-group-len-clause-fits
returns-else-group-len-clause-fits g c =
    let s = c.args.self.now in
    omega (arith, c.len-else-group-len.ensures, joined-fits s.groups.items s.starts.items s.blocks.items s.rows)
