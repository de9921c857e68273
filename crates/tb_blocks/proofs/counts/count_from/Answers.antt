-- One block more is counted.
use Rattle.std.proofs.Common.{◌≡◌, ◌*◌, ◌<◌, [], length, get_or, vec_capacity, arith, ap, ◌∙◌}
use Rattle.std.proofs.lemmas.List.{get_or_default}
use Rattle.tb_blocks.specs.Sizes.{group_size}
use Rattle.tb_blocks.proofs.CountingLemmas.{IsGrouped, before-small, counting-begun, counting-next, grouped-new, grouped-same}
use Rattle.tb_blocks.proofs.counts.count_from.Goals as goal
use Rattle.tb_blocks.proofs.counts.count_from.Goals.{then-at-eq0, else-at-eq0}

pub loop-at-init : goal.loop-at-init
loop-at-init g c =
    let first : group_size * c.args.from ≡ c.args.from * 32 = omega arith in
    record {
      counting = rw (← first, c.truncate.ensures.items, c.truncate-2.ensures.items, ← first)
          (counting-begun c.args.from c.args.elements c.args.groups.now.items c.args.starts.now.items
          c.args.blocks.now c.requires.counted);
      total = omega (
        arith,
        c.requires.counted.total_is,
        before-small c.args.blocks.now (group_size * c.args.from) c.requires.small,
      );
      capacity = c.truncate.ensures.capacity;
      groups_capacity = c.truncate-2.ensures.capacity;
    }

pub loop-at-preserved : goal.loop-at-preserved
loop-at-preserved g c =
    let i = c.loop-at.invariant in
    let blocks = c.args.blocks.now in
    let at = c.loop-at.at in
    let block = c.index-blocks-at.result in
    let some : at < length blocks = omega (arith, c.loop-at-test.true) in
    let block_is : block ≡ get_or blocks at [] = c.index-blocks-at.is ∙ get_or_default blocks at block [] some in
    let grouped : IsGrouped at c.loop-at.total c.if-at-eq0.group c.if-at-eq0.groups.items blocks =
    elim c.if-at-eq0.branch [
      | then-at-eq0 w ↦ rw w.group-is
          (grouped-new at c.loop-at.total c.loop-at.group c.loop-at.groups.items c.if-at-eq0.groups.items
          c.loop-at.starts.items blocks i.counting w.if-at-eq0.true
          (ap (λ v. v.items) w.groups-is ∙ w.push_reserved.ensures.items))
      | else-at-eq0 w ↦ rw (w.group-is, ap (λ v. v.items) w.groups-is)
          (grouped-same at c.loop-at.total c.loop-at.group c.loop-at.groups.items c.loop-at.starts.items blocks
          i.counting w.if-at-eq0.false)
    ] in
    let next = counting-next at c.loop-at.total c.loop-at.group c.if-at-eq0.group c.loop-at.groups.items
    c.if-at-eq0.groups.items c.loop-at.starts.items c.push_reserved-in-loop-at.new.self.items blocks block
    i.counting some block_is grouped c.push_reserved-in-loop-at.ensures.items in
    record {
      counting = rw c.len-total.ensures.len next;
      total = omega (arith, i.total, c.len-total.ensures.len, c.len-total.ensures.most);
      capacity = c.push_reserved-in-loop-at.ensures.capacity ∙ i.capacity;
      groups_capacity = elim c.if-at-eq0.branch [
        | then-at-eq0 w ↦ ap (λ v. vec_capacity v) w.groups-is ∙ w.push_reserved.ensures.capacity ∙ i.groups_capacity
        | else-at-eq0 w ↦ ap (λ v. vec_capacity v) w.groups-is ∙ i.groups_capacity
      ];
    }
