-- Both halves are counted anew.
use Rattle.std.proofs.Common.{◌+◌, ◌/◌, ◌∙◌, length, length-set, set, arith, ap}
use Rattle.tb_blocks.specs.Sizes.{group_size}
use Rattle.tb_blocks.proofs.BeforeLemmas.{before-insert_below, before-set_below}
use Rattle.tb_blocks.proofs.CountingLemmas.{counted-before}
use Rattle.tb_blocks.proofs.CountsLemmas.{full_of-split}
use Rattle.tb_blocks.proofs.RowsLemmas.{block-is, small-split, length-split}
use Rattle.tb_blocks.proofs.rows.Rows.split.Goals as goal

pub count_from-requires-clause-small : goal.count_from-requires-clause-small
count_from-requires-clause-small g c =
    rw (c.deref.ensures.value, c.insert_reserved.ensures.items)
    (small-split c.args.self.now.blocks.items c.args.at c.index_mut.result.now c.split_into.new.self
    c.split_into.new.upper c.requires.at c.args.self.now.rows.small c.index_mut.ensures.value
    c.split_into.ensures.lower c.split_into.ensures.upper)

pub count_from-requires-clause-counted : goal.count_from-requires-clause-counted
count_from-requires-clause-counted g c =
    let s = c.args.self.now in
    let lower = set s.blocks.items c.args.at c.split_into.new.self in
    rw (c.deref.ensures.value, c.insert_reserved.ensures.items)
    (counted-before (c.args.at / group_size) c.group_start-elements.result s.groups.items s.starts.items
    s.blocks.items _ s.rows.counted (omega (arith, c.requires.at)) c.group_start-elements.ensures.group
    (omega (
      arith,
      c.requires.at,
      length-split s.blocks.items c.args.at c.split_into.new.self
          c.split_into.new.upper c.requires.at,
    ))
    c.group_start-elements.ensures.start
    (λ k low. before-insert_below lower (c.args.at + 1) c.split_into.new.upper k
    (omega (arith, c.requires.at, length-set s.blocks.items c.args.at c.split_into.new.self)) (omega (arith, low))
    ∙ before-set_below s.blocks.items c.args.at c.split_into.new.self k (omega (arith, low))))

pub invariant_of-self : goal.invariant_of-self
invariant_of-self g c =
    let s = c.args.self.now in
    let is = c.insert_reserved.ensures.items in
    let full = ap (λ b. length b) (block-is s.blocks.items c.args.at c.index_mut.result.now c.requires.at
    c.index_mut.ensures.value) ∙ c.requires.full in
    let longer = length-split s.blocks.items c.args.at c.split_into.new.self c.split_into.new.upper c.requires.at in
    record {
      rows = record {
        counted = rw (← c.deref.ensures.value) c.count_from.ensures.counts;
        small = rw is (small-split s.blocks.items c.args.at c.index_mut.result.now c.split_into.new.self
            c.split_into.new.upper c.requires.at s.rows.small c.index_mut.ensures.value c.split_into.ensures.lower
            c.split_into.ensures.upper);
        few = omega (arith, ap (λ b. length b) is, longer, c.requires.few);
      };
      fullness = rw is (omega (
        arith,
        s.fullness,
        full_of-split s.blocks.items c.args.at c.index_mut.result.now c.split_into.new.self c.split_into.new.upper
            c.requires.at c.index_mut.ensures.value full c.split_into.ensures.lower
            c.split_into.ensures.upper,
      ));
      places = record {
        used = omega (arith, ap (λ b. length b) is, longer, c.requires.room);
        of_blocks = omega (arith, c.insert_reserved.ensures.capacity, s.places.of_blocks);
        of_starts = omega (arith, c.count_from.ensures.capacity, s.places.of_starts);
        of_groups = omega (arith, c.count_from.ensures.groups_capacity, s.places.of_groups);
      };
    }
