-- The link of a row that has the key leads to the one before it.
use Rattle.std.proofs.Common.{◌-◌, ◌∙◌, Bool, get_or}
use Rattle.tb_index.proofs.EndLemmas.{end_of-rows}
use Rattle.tb_index.proofs.LinkLemmas.{IsFoundTo-start, IsFoundTo-step, next-is, next-smaller}
use Rattle.tb_index.proofs.links.rows_up_to.Goals as goal

pub loop-end-init : goal.loop-end-init
loop-end-init g c =
    let same = g.In.Key.PartialEq.eq in
    let key_of = g.In.KeyOf.key_of in
    let passes : g.row.T.Denot → Bool = λ row. same (key_of row) c.args.key.now in
    rw c.new-found.ensures.items
    (IsFoundTo-start passes c.args.rows.now c.args.end
    (c.requires.end
    ∙ end_of-rows same key_of c.args.key.now c.args.rows.now))

pub loop-end-smaller : goal.loop-end-smaller
loop-end-smaller g c =
    let same = g.In.Key.PartialEq.eq in
    let key_of = g.In.KeyOf.key_of in
    let passes : g.row.T.Denot → Bool = λ row. same (key_of row) c.args.key.now in
    let end = c.loop-end.end in
    next-smaller passes c.args.rows.now end (get_or c.args.links.now (end - 1) 0) c.loop-end.invariant.within
    c.loop-end-test.true
    (next-is same key_of c.args.key.now c.args.rows.now c.loop-end.found.items c.args.links.now end 0
    c.index-rows-end.result g.met.In.Key.Eq.laws c.requires.links c.loop-end.invariant
    c.loop-end-test.true)

pub loop-end-preserved : goal.loop-end-preserved
loop-end-preserved g c =
    let same = g.In.Key.PartialEq.eq in
    let key_of = g.In.KeyOf.key_of in
    let passes : g.row.T.Denot → Bool = λ row. same (key_of row) c.args.key.now in
    let end = c.loop-end.end in
    rw c.in_ok-push.ensures.items
    (IsFoundTo-step passes c.args.rows.now c.loop-end.found.items end (get_or c.args.links.now (end - 1) 0)
    c.index-rows-end.result c.loop-end.invariant c.loop-end-test.true c.index-rows-end.is
    (next-is same key_of c.args.key.now c.args.rows.now c.loop-end.found.items c.args.links.now end 0
    c.index-rows-end.result g.met.In.Key.Eq.laws c.requires.links c.loop-end.invariant
    c.loop-end-test.true))
