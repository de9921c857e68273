-- A part of what is left to search goes.
use Rattle.std.proofs.Common.{◌<◌, length, arith, sym}
use Rattle.tb_blocks.specs.Orders.{is_below}
use Rattle.tb_blocks.proofs.SearchLemmas.{all-before, none-behind}
use Rattle.tb_blocks.proofs.search.place_in.Goals as goal
use Rattle.tb_blocks.proofs.search.place_in.Goals.{then-is_below, else-is_below}

pub loop-low-preserved : goal.loop-low-preserved
loop-low-preserved g c =
    let i = c.loop-low.invariant in
    let elements = c.args.elements.now in
    let middle = c.loop-low.middle in
    let looked = i.2 c.loop-low-test.true in
    let short : middle < length elements = omega (arith, i.1, looked.1) in
    elim c.if-is_below.branch [
      | then-is_below w ↦ rw (w.low-is, w.high-is) (
        omega (arith, looked.1),
        i.1,
        λ some. (omega (arith, some), omega (arith, some)),
        λ ordered. (
          all-before (is_below g.T.Key.Ord.cmp g.T.Keyed.key_of c.args.key.now)
              elements middle c.index-elements-middle.result ordered short c.index-elements-middle.is
              (sym w.if-is_below.ensures),
          (i.3 ordered).1,
        ),
      )
      | else-is_below w ↦ rw (w.low-is, w.high-is) (
        omega (arith, looked.0),
        omega (arith, short),
        λ some. (omega (arith, some), omega (arith, some)),
        λ ordered. (
          (i.3 ordered).0,
          none-behind (is_below g.T.Key.Ord.cmp g.T.Keyed.key_of c.args.key.now)
              elements middle c.index-elements-middle.result ordered short c.index-elements-middle.is
              (sym w.if-is_below.ensures),
        ),
      )
    ]
