-- The element goes into a new block at an end, or into one of the halves.
use Rattle.std.proofs.Common.{◌≡◌, ◌+◌, ◌-◌, ◌*◌, ◌≤◌, [], length, get_or, min, mul-le-mul_left, arith, ap, ◌∙◌, subst}
use Rattle.std.specs.List.{insert}
use Rattle.std.proofs.lemmas.List.Edits.{get_or-insert_at}
use Rattle.tb_blocks.specs.Sizes.{block_size, half_size, progress_of}
use Rattle.tb_blocks.specs.Lists.{IsSure}
use Rattle.tb_blocks.specs.Rows.{halves}
use Rattle.tb_blocks.proofs.RowsLemmas.{block-is, length-halves}
use Rattle.tb_blocks.proofs.SureLemmas.{sure-open, sure-split}
use Rattle.tb_blocks.proofs.WayLemmas.{IsWay-open, IsWay-split, filled-all, filled-open, filled-halves, filled-set}
use Rattle.tb_blocks.proofs.large.make_way.Goals as goal

pub overflow_add-spare : goal.overflow_add-spare
overflow_add-spare g c =
    omega (
      arith,
      c.progress_of.ensures.fits,
      c.requires.sure,
      c.requires.pace.most,
      c.requires.room.few,
      mul-le-mul_left (min c.args.pace half_size) c.requires.room.few,
    )

pub returns-in-Some-clause-way : goal.returns-in-Some-clause-way
returns-in-Some-clause-way g c =
    rw (c.open.ensures.blocks, c.take.ensures.empty)
    (IsWay-open c.args.rows.now.blocks.items c.in-Some.fresh c.args.place c.in-Some.ensures.at
    c.in-Some.ensures.before)

pub returns-in-Some-clause-filled : goal.returns-in-Some-clause-filled
returns-in-Some-clause-filled g c = λ block here.
    let blocks = c.args.rows.now.blocks.items in
    let e = ap (λ b. length b) (block-is blocks c.args.at c.index.result.now c.requires.at
    c.index.ensures) in
    let all = filled-all blocks c.args.at c.requires.filled c.requires.at
    (omega (arith, e, c.len.ensures.len, c.if-len-lt-BLOCK.false)) in
    rw (c.open.ensures.blocks, c.take.ensures.empty)
    (filled-open blocks c.in-Some.fresh block all c.in-Some.ensures.at here)

pub returns-in-Some-clause-sure : goal.returns-in-Some-clause-sure
returns-in-Some-clause-sure g c = λ block longer.
    let blocks = c.args.rows.now.blocks.items in
    let is = c.open.ensures.blocks ∙ ap (λ b. insert blocks c.in-Some.fresh b) c.take.ensures.empty in
    let one : length block ≡ 1 = longer ∙ ap (λ b. length (get_or b c.in-Some.fresh []) + 1) is
    ∙ ap (λ b. length b + 1) (get_or-insert_at blocks c.in-Some.fresh [] [] c.in-Some.ensures.at) in
    let come : c.progress_of.result ≡ progress_of c.min-pace.result blocks =
    c.progress_of.ensures.progress ∙ ap (λ b. progress_of c.min-pace.result b) c.deref.ensures.value in
    let free_is : c.len-free.result ≡ length c.args.pool.now.free.items = omega (arith, c.len-free.ensures) in
    let test = subst (λ n. c.args.spare + c.progress_of.result ≤ c.min-pace.result * n)
    free_is c.if-spare-progress_of.true in
    let sure : (c.args.spare - 1) + 1 + progress_of c.min-pace.result blocks ≤ c.min-pace.result * length
    c.args.pool.now.free.items =
    omega (arith, test, come, c.requires.positive) in
    rw is (sure-open c.min-pace.result (c.args.spare - 1) blocks c.in-Some.fresh block
    (length c.args.pool.now.free.items) (length c.take.new.self.free.items)
    (omega (arith, c.min-pace.ensures)) c.in-Some.ensures.at c.take.ensures.fewer sure one)

pub returns-in_default-clause-way : goal.returns-in_default-clause-way
returns-in_default-clause-way g c =
    let blocks = c.args.rows.now.blocks.items in
    let o = c.split.ensures in
    rw o.blocks (IsWay-split blocks c.args.at c.split.result c.args.place c.requires.at o.side
    (rw o.blocks at o.low) (rw o.blocks at o.high) (rw o.blocks at o.half))

pub returns-in_default-clause-filled : goal.returns-in_default-clause-filled
returns-in_default-clause-filled g c = λ block here.
    let blocks = c.args.rows.now.blocks.items in
    let at = c.args.at in
    let o = c.split.ensures in
    let e = ap (λ b. length b) (block-is blocks at c.index.result.now c.requires.at c.index.ensures) in
    let full : length (get_or blocks at []) ≡ block_size =
    omega (arith, e, c.len.ensures.len, c.len.ensures.most, c.if-len-lt-BLOCK.false) in
    let all = filled-halves blocks at (filled-all blocks at c.requires.filled c.requires.at (omega arith))
    c.requires.at full in
    rw o.blocks (filled-set (halves blocks at) c.split.result block (λ k short several. all k short)
    (omega (arith, length-halves blocks at c.requires.at, o.side, c.requires.at)) here)

pub returns-in_default-clause-sure : goal.returns-in_default-clause-sure
returns-in_default-clause-sure g c = λ block longer.
    let blocks = c.args.rows.now.blocks.items in
    let at = c.args.at in
    let o = c.split.ensures in
    let e = ap (λ b. length b) (block-is blocks at c.index.result.now c.requires.at c.index.ensures) in
    let full : length (get_or blocks at []) ≡ block_size =
    omega (arith, e, c.len.ensures.len, c.len.ensures.most, c.if-len-lt-BLOCK.false) in
    let one : c.args.spare ≡ (c.args.spare - 1) + 1 = omega (arith, c.requires.positive) in
    let sure = subst (λ n. IsSure c.args.pace n blocks (length c.args.pool.now.free.items)) one c.requires.sure in
    rw (c.min-pace.ensures, o.blocks)
    (sure-split c.args.pace (c.args.spare - 1) blocks at c.split.result block (length c.args.pool.now.free.items)
    (length c.split.new.pool.free.items)
    c.requires.pace c.requires.at full o.free sure (omega (arith, o.side, c.requires.at))
    (rw o.blocks at o.half) (longer ∙ ap (λ b. length (get_or b c.split.result []) + 1) o.blocks))
