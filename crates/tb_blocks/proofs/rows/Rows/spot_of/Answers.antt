-- The blocks are parted by their first elements, and one of them within.
use Rattle.std.proofs.Common.{◌≡◌, ◌+◌, ◌<◌, [], length, get_or, arith, ap, sym, ◌∙◌}
use Rattle.tb_blocks.specs.Orders.{is_below}
use Rattle.tb_blocks.specs.Rows.{joined, before}
use Rattle.tb_blocks.proofs.BeforeLemmas.{before-more, before-le, before-end}
use Rattle.tb_blocks.proofs.CountsLemmas.{joined-fits}
use Rattle.tb_blocks.proofs.RowsLemmas.{block-is}
use Rattle.tb_blocks.proofs.SearchLemmas.{all-before, none-behind, first-of-block, first-within, partition-block}
use Rattle.tb_blocks.proofs.rows.Rows.spot_of.Goals as goal
use Rattle.tb_blocks.proofs.rows.Rows.spot_of.Goals.{then-is_below, else-is_below}

pub loop-high-init : goal.loop-high-init
loop-high-init g c =
    record {
      some = omega (arith, c.len-high.ensures, c.requires.some);
      looked = λ several. (omega (arith, several), omega (arith, c.len-high.ensures, c.requires.some));
      within = omega (arith, c.len-high.ensures);
      halves = λ ordered. (
        λ k d from to. absurd (omega arith),
        λ k d from to. absurd
            (omega (
              arith,
              before-end c.args.self.now.blocks.items c.len-high.result
                  (omega (arith, c.len-high.ensures)),
            )),
      );
    }

pub loop-high-preserved : goal.loop-high-preserved
loop-high-preserved g c =
    let i = c.loop-high.invariant in
    let blocks = c.args.self.now.blocks.items in
    let middle = c.loop-high.middle in
    let looked = i.looked (omega (arith, c.loop-high-test.true)) in
    let short : middle < length blocks = omega (arith, i.within, looked.1) in
    let here : 0 < length (get_or blocks middle []) =
    c.requires.filled middle short (omega (arith, i.within, looked.0, looked.1)) in
    let x = c.first-first.result in
    let block_is = block-is blocks middle c.index.result.now short c.index.ensures in
    let is = first-of-block blocks middle x short here (c.first-first.ensures ∙ ap (λ b. get_or b 0 x) block_is) in
    let within = first-within blocks middle short here in
    elim c.if-is_below.branch [
      | then-is_below w ↦ rw (w.low-is, w.high-is) record {
        some = omega (arith, looked.1);
        looked = λ several. (omega (arith, several), omega (arith, several));
        within = i.within;
        halves = λ ordered.
            let all = all-before (is_below g.T.Key.Ord.cmp g.T.Keyed.key_of c.args.key.now) (joined blocks)
            (before middle blocks) x ordered within is (sym w.if-is_below.ensures) in
            (λ k d from to. all k d from (omega arith), (i.halves ordered).1);
      }
      | else-is_below w ↦ rw (w.low-is, w.high-is) record {
        some = omega (arith, looked.0);
        looked = λ several. (omega (arith, several), omega (arith, several));
        within = omega (arith, short);
        halves = λ ordered. (
          (i.halves ordered).0,
          none-behind (is_below g.T.Key.Ord.cmp g.T.Keyed.key_of c.args.key.now)
              (joined blocks) (before middle blocks) x ordered within is (sym w.if-is_below.ensures),
        );
      }
    ]

pub returns-clause-within : goal.returns-clause-within
returns-clause-within g c =
    let i = c.loop-high.invariant in
    let blocks = c.args.self.now.blocks.items in
    let low = c.loop-high.low in
    let some : low < length blocks = omega (arith, i.some, i.within) in
    let same : length c.elements.result.now ≡ length (get_or blocks low []) =
    ap (λ b. length b) (c.elements.ensures ∙ block-is blocks low c.index-2.result.now some c.index-2.ensures) in
    omega (
      arith,
      c.start.ensures.start,
      c.place_in.ensures.within,
      same,
      before-more blocks low some,
      before-le blocks (low + 1),
    )

pub overflow_add-result : goal.overflow_add-result
overflow_add-result g c =
    let i = c.loop-high.invariant in
    let s = c.args.self.now in
    let blocks = s.blocks.items in
    let low = c.loop-high.low in
    let some : low < length blocks = omega (arith, i.some, i.within) in
    let same : length c.elements.result.now ≡ length (get_or blocks low []) =
    ap (λ b. length b) (c.elements.ensures ∙ block-is blocks low c.index-2.result.now some c.index-2.ensures) in
    omega (
      arith,
      c.start.ensures.start,
      c.place_in.ensures.within,
      same,
      before-more blocks low some,
      before-le blocks (low + 1),
      joined-fits s.groups.items s.starts.items blocks s.rows,
    )

pub returns-clause-place : goal.returns-clause-place
returns-clause-place g c = λ ordered.
    let i = c.loop-high.invariant in
    let blocks = c.args.self.now.blocks.items in
    let low = c.loop-high.low in
    let some : low < length blocks = omega (arith, i.some, i.within) in
    let is = c.elements.ensures ∙ block-is blocks low c.index-2.result.now some c.index-2.ensures in
    let next : c.loop-high.high ≡ low + 1 = omega (arith, i.some, c.loop-high-test.false) in
    let parted = i.halves ordered in
    rw c.start.ensures.start (partition-block (is_below g.T.Key.Ord.cmp g.T.Keyed.key_of c.args.key.now)
    blocks low c.place_in.result some ordered parted.0 (rw next at parted.1)
    (rw is at c.place_in.ensures.within) (rw is at c.place_in.ensures.place))
