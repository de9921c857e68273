-- The place is in the block that the search ends at.
use Rattle.std.proofs.Common.{arith, inl, inr}
use Rattle.tb_blocks.proofs.RowsLemmas.{search-end}
use Rattle.tb_blocks.proofs.rows.Rows.block_of.Goals as goal

pub returns-clause-high : goal.returns-clause-high
returns-clause-high g c =
    let i = c.loop-high.invariant in
    elim (search-end c.args.self.now.blocks.items c.args.place c.loop-high.low c.loop-high.high i.some i.within
    (omega arith) i.high) [
      | inl below ↦ omega arith
      | inr end ↦ omega (arith, end, c.requires.within)
    ]

pub returns-clause-inside : goal.returns-clause-inside
returns-clause-inside g c = λ within.
    let i = c.loop-high.invariant in
    elim (search-end c.args.self.now.blocks.items c.args.place c.loop-high.low c.loop-high.high i.some i.within
    (omega arith) i.high) [
      | inl below ↦ below
      | inr end ↦ omega (arith, end)
    ]
