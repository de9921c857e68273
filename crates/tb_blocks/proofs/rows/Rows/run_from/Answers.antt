-- The rest of the place's block is a run of the list.
use Rattle.std.proofs.Common.{◌-◌, length, drop, arith, length-drop}
use Rattle.std.proofs.lemmas.List.{take_all}
use Rattle.tb_blocks.proofs.JoinedLemmas.{IsRun-block}
use Rattle.tb_blocks.proofs.RowsLemmas.{block-is, place-inside}
use Rattle.tb_blocks.proofs.rows.Rows.run_from.Goals as goal

pub returns : goal.returns
returns g c =
    let o = c.block_of-at.ensures in
    let blocks = c.args.self.now.blocks.items in
    let block = c.index.result.now in
    let at = c.block_of-at.result in
    let inside = place-inside blocks at c.args.place block o.at c.index.ensures o.low (o.inside c.requires) in
    let run = IsRun-block blocks at c.args.place block o.at (block-is blocks at block o.at c.index.ensures) o.low
    (omega (arith, inside)) in
    let p = c.args.place - c.start.result in
    rw (
      c.elements.ensures,
      take_all (length block - p) (drop p block) (omega (arith, length-drop p block)),
      c.start.ensures.start,
    ) run
