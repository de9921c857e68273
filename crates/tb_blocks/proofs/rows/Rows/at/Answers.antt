-- The element at the place in the block stands at that place of the list.
use Rattle.std.proofs.Common.{◌-◌, get_or, ap, ◌∙◌}
use Rattle.tb_blocks.proofs.RowsLemmas.{at-joined}
use Rattle.tb_blocks.proofs.rows.Rows.at.Goals as goal

pub returns : goal.returns
returns g c =
    let o = c.block_of-at.ensures in
    let block = c.index.result.now in
    c.at.ensures ∙ ap (λ s. get_or block (c.args.place - s) c.at.result.now) c.start.ensures.start
    ∙ at-joined c.args.self.now.blocks.items c.block_of-at.result c.args.place block c.at.result.now o.at
    c.index.ensures o.low (o.inside c.requires)
