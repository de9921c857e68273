-- The numbers behind the block are one less.
use Rattle.std.proofs.Common.{◌≡◌, ◌+◌, ◌-◌, ◌*◌, ◌/◌, length, min, arith, ◌∙◌, ap, subst, length-set}
use Rattle.std.proofs.lemmas.List.Edits.{length-remove}
use Rattle.tb_blocks.specs.Sizes.{group_size}
use Rattle.tb_blocks.specs.Rows.{IsRaised}
use Rattle.tb_blocks.proofs.CountsLemmas.{starts-above, groups-above, full_of-set, AreRows-take}
use Rattle.tb_blocks.proofs.RowsLemmas.{place-inside, block-is}
use Rattle.tb_blocks.proofs.rows.Rows.take.Goals as goal

pub lower-requires-clause-fits : goal.lower-requires-clause-fits
lower-requires-clause-fits g c = λ k low high.
    starts-above c.args.self.now.groups.items c.args.self.now.starts.items c.args.self.now.blocks.items c.args.at k
    c.args.place c.args.self.now.rows.counted low (omega (arith, c.args.self.now.rows.counted.one_each))
    (omega arith) c.requires.low c.requires.inside

pub lower-requires-2-clause-fits : goal.lower-requires-2-clause-fits
lower-requires-2-clause-fits g c = λ k low high.
    groups-above c.args.self.now.groups.items c.args.self.now.starts.items c.args.self.now.blocks.items c.args.at k
    c.args.place c.args.self.now.rows.counted low (omega arith) c.requires.inside

pub invariant_of-self : goal.invariant_of-self
invariant_of-self g c =
    let s = c.args.self.now in
    let blocks = s.blocks.items in
    let at = c.args.at in
    let block = c.index_mut.result.now in
    let inside = place-inside blocks at c.args.place block c.requires.at c.index_mut.ensures.value c.requires.low
    c.requires.inside in
    let shorter : length c.remove-element.new.self + 1 ≡ length block =
    ap (λ b. length b + 1) c.remove-element.ensures.rest
    ∙ length-remove block (c.args.place - c.start-start.result)
    (omega (arith, inside, c.start-start.ensures.start)) in
    let read = ap (λ b. length b) (block-is blocks at c.index.result.now c.requires.at c.index.ensures) in
    let e = ap (λ b. length b) (block-is blocks at block c.requires.at c.index_mut.ensures.value) in
    let starts_are : c.len.result ≡ length s.starts.items = omega (arith, c.len.ensures) in
    let groups_are : c.len-groups.result ≡ length s.groups.items = omega (arith, c.len-groups.ensures) in
    let end_is = c.min-end.ensures ∙ ap (λ n. min n ((at / group_size + 1) * group_size)) starts_are in
    record {
      rows = AreRows-take s.groups.items c.lower-2.new.numbers.items s.starts.items c.lower.new.numbers.items blocks
          at c.min-end.result block c.remove-element.new.self s.rows c.requires.at c.index_mut.ensures.value shorter
          end_is c.lower.ensures.lowered
          (subst (λ n. IsRaised (at / group_size + 1) n c.lower-2.new.numbers.items s.groups.items)
          groups_are c.lower-2.ensures.lowered);
      fullness = omega (
        arith,
        full_of-set blocks at block c.remove-element.new.self c.requires.at
            c.index_mut.ensures.value,
        s.fullness,
        e,
        read,
        shorter,
        s.rows.small at,
        c.full_count.ensures,
      );
      places = record {
        used = omega (arith, length-set blocks at c.remove-element.new.self, s.places.used);
        of_blocks = s.places.of_blocks;
        of_starts = omega (arith, c.lower.ensures.capacity, s.places.of_starts);
        of_groups = omega (arith, c.lower-2.ensures.capacity, s.places.of_groups);
      };
    }
