-- The blocks from the new one's group on are counted anew.
use Rattle.std.proofs.Common.{◌/◌, length, arith, ap}
use Rattle.std.proofs.lemmas.List.Edits.{length-insert}
use Rattle.tb_blocks.specs.Sizes.{group_size}
use Rattle.tb_blocks.proofs.BeforeLemmas.{before-insert_below}
use Rattle.tb_blocks.proofs.CountingLemmas.{counted-before}
use Rattle.tb_blocks.proofs.CountsLemmas.{full_of-insert}
use Rattle.tb_blocks.proofs.RowsLemmas.{small-insert}
use Rattle.tb_blocks.proofs.rows.Rows.open.Goals as goal

pub count_from-requires-clause-small : goal.count_from-requires-clause-small
count_from-requires-clause-small g c =
    let s = c.args.self.now in
    rw (c.deref.ensures.value, c.insert_reserved.ensures.items)
    (small-insert s.blocks.items c.args.at c.args.block c.requires.at s.rows.small
    (omega (arith, ap (λ b. length b) c.requires.empty)))

pub count_from-requires-clause-counted : goal.count_from-requires-clause-counted
count_from-requires-clause-counted g c =
    let s = c.args.self.now in
    rw (c.deref.ensures.value, c.insert_reserved.ensures.items)
    (counted-before (c.args.at / group_size) c.group_start-elements.result s.groups.items s.starts.items
    s.blocks.items _ s.rows.counted (omega (arith, c.requires.at)) c.group_start-elements.ensures.group
    (omega (arith, c.requires.at, length-insert s.blocks.items c.args.at c.args.block c.requires.at))
    c.group_start-elements.ensures.start
    (λ k low. before-insert_below s.blocks.items c.args.at c.args.block k c.requires.at (omega (arith, low))))

pub invariant_of-self : goal.invariant_of-self
invariant_of-self g c =
    let s = c.args.self.now in
    let is = c.insert_reserved.ensures.items in
    let longer = length-insert s.blocks.items c.args.at c.args.block c.requires.at in
    record {
      rows = record {
        counted = rw (← c.deref.ensures.value) c.count_from.ensures.counts;
        small = rw is (small-insert s.blocks.items c.args.at c.args.block c.requires.at s.rows.small
            (omega (arith, ap (λ b. length b) c.requires.empty)));
        few = omega (arith, ap (λ b. length b) is, longer, c.requires.few);
      };
      fullness = rw is (omega (
        arith,
        s.fullness,
        full_of-insert s.blocks.items c.args.at c.args.block,
        ap (λ b. length b) c.requires.empty,
      ));
      places = record {
        used = omega (arith, ap (λ b. length b) is, longer, c.requires.room);
        of_blocks = omega (arith, c.insert_reserved.ensures.capacity, s.places.of_blocks);
        of_starts = omega (arith, c.count_from.ensures.capacity, s.places.of_starts);
        of_groups = omega (arith, c.count_from.ensures.groups_capacity, s.places.of_groups);
      };
    }
