-- The place is in one of the halves.
use Rattle.std.proofs.Common.{length, ap, arith, ◌∙◌}
use Rattle.tb_blocks.proofs.RowsLemmas.{halves-lower, halves-upper, lower-half, upper-half, before-halves}
use Rattle.tb_blocks.proofs.large.split.Goals as goal

pub returns-then-place-start-clause-half : goal.returns-then-place-start-clause-half
returns-then-place-start-clause-half g c =
    let blocks = c.args.rows.now.blocks.items in
    rw c.split.ensures.blocks (ap (λ b. length b) (halves-lower blocks c.args.at c.requires.at)
    ∙ lower-half _ c.requires.full)

pub returns-else-place-start-clause-half : goal.returns-else-place-start-clause-half
returns-else-place-start-clause-half g c =
    let blocks = c.args.rows.now.blocks.items in
    rw c.split.ensures.blocks (ap (λ b. length b) (halves-upper blocks c.args.at c.requires.at)
    ∙ upper-half _ c.requires.full)

pub returns-else-place-start-clause-high : goal.returns-else-place-start-clause-high
returns-else-place-start-clause-high g c =
    rw c.split.ensures.blocks (omega
    (arith, before-halves c.args.rows.now.blocks.items c.args.at c.requires.at c.requires.full, c.requires.high))
