-- The other blocks are counted anew.
use Rattle.std.proofs.Common.{◌≡◌, ◌+◌, ◌/◌, length, arith, ap, ◌∙◌}
use Rattle.std.proofs.lemmas.List.Edits.{length-remove}
use Rattle.tb_blocks.specs.Sizes.{group_size}
use Rattle.tb_blocks.proofs.BeforeLemmas.{before-remove_below}
use Rattle.tb_blocks.proofs.CountingLemmas.{counted-before}
use Rattle.tb_blocks.proofs.CountsLemmas.{full_of-remove}
use Rattle.tb_blocks.proofs.RowsLemmas.{small-remove}
use Rattle.tb_blocks.proofs.rows.Rows.give_up.Goals as goal

pub count_from-requires-clause-small : goal.count_from-requires-clause-small
count_from-requires-clause-small g c =
    rw (c.deref.ensures.value, c.remove-block.ensures.items)
    (small-remove c.args.self.now.blocks.items c.args.at c.requires.at c.args.self.now.rows.small)

pub count_from-requires-clause-few : goal.count_from-requires-clause-few
count_from-requires-clause-few g c =
    omega (
      arith,
      ap (λ b. length b) (c.deref.ensures.value ∙ c.remove-block.ensures.items),
      length-remove c.args.self.now.blocks.items c.args.at c.requires.at,
      c.args.self.now.rows.few,
    )

pub count_from-requires-clause-room : goal.count_from-requires-clause-room
count_from-requires-clause-room g c =
    omega (
      arith,
      ap (λ b. length b) (c.deref.ensures.value ∙ c.remove-block.ensures.items),
      length-remove c.args.self.now.blocks.items c.args.at c.requires.at,
      c.args.self.now.places.used,
      c.args.self.now.places.of_starts,
    )

pub count_from-requires-clause-groups_room : goal.count_from-requires-clause-groups_room
count_from-requires-clause-groups_room g c =
    omega (
      arith,
      ap (λ b. length b) (c.deref.ensures.value ∙ c.remove-block.ensures.items),
      length-remove c.args.self.now.blocks.items c.args.at c.requires.at,
      c.args.self.now.places.used,
      c.args.self.now.places.of_groups,
    )

pub count_from-requires-clause-counted : goal.count_from-requires-clause-counted
count_from-requires-clause-counted g c =
    let s = c.args.self.now in
    rw (c.deref.ensures.value, c.remove-block.ensures.items)
    (counted-before (c.args.at / group_size) c.group_start-elements.result s.groups.items s.starts.items
    s.blocks.items _ s.rows.counted (omega (arith, c.requires.at)) c.group_start-elements.ensures.group
    (omega (arith, c.requires.at, length-remove s.blocks.items c.args.at c.requires.at))
    c.group_start-elements.ensures.start
    (λ k low. before-remove_below s.blocks.items c.args.at k (omega (arith, low))))

pub invariant_of-self : goal.invariant_of-self
invariant_of-self g c =
    let old = c.args.self.now.blocks.items in
    let is = c.remove-block.ensures.items in
    let shorter : length c.remove-block.new.self.items + 1 ≡ length old =
    ap (λ b. length b + 1) is ∙ length-remove old c.args.at c.requires.at in
    record {
      rows = record {
        counted = rw (← c.deref.ensures.value) c.count_from.ensures.counts;
        small = rw is (small-remove old c.args.at c.requires.at c.args.self.now.rows.small);
        few = omega (arith, shorter, c.args.self.now.rows.few);
      };
      fullness = rw is (omega (
        arith,
        c.args.self.now.fullness,
        full_of-remove old c.args.at c.requires.at c.requires.empty,
      ));
      places = record {
        used = omega (arith, shorter, c.args.self.now.places.used);
        of_blocks = omega (arith, c.remove-block.ensures.capacity, c.args.self.now.places.of_blocks);
        of_starts = omega (arith, c.count_from.ensures.capacity, c.args.self.now.places.of_starts);
        of_groups = omega (arith, c.count_from.ensures.groups_capacity, c.args.self.now.places.of_groups);
      };
    }
