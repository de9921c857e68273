-- The numbers behind the block are one more.
use Rattle.std.proofs.Common.{◌≡◌, ◌+◌, ◌-◌, ◌*◌, ◌/◌, length, min, arith, ◌∙◌, ap, subst, length-set, get_or-set_same}
use Rattle.std.proofs.lemmas.List.Edits.{length-insert}
use Rattle.tb_blocks.specs.Sizes.{group_size}
use Rattle.tb_blocks.specs.Rows.{IsRaised}
use Rattle.tb_blocks.proofs.CountsLemmas.{starts-fit, groups-fit, full_of-le, full_of-set, AreRows-put}
use Rattle.tb_blocks.proofs.RowsLemmas.{place-within, block-is}
use Rattle.tb_blocks.proofs.rows.Rows.put.Goals as goal

pub overflow_add-self : goal.overflow_add-self
overflow_add-self g c = omega (
  arith,
  c.full_count.ensures,
  c.args.self.now.fullness,
  full_of-le c.args.self.now.blocks.items c.args.self.now.rows.small,
  c.args.self.now.rows.few,
)

pub raise-requires-clause-fits : goal.raise-requires-clause-fits
raise-requires-clause-fits g c = λ k low high. let f =
    starts-fit c.args.self.now.groups.items c.args.self.now.starts.items c.args.self.now.blocks.items k
    c.args.self.now.rows (omega arith) in omega arith

pub raise-requires-2-clause-fits : goal.raise-requires-2-clause-fits
raise-requires-2-clause-fits g c = λ k low high. let f =
    groups-fit c.args.self.now.groups.items c.args.self.now.starts.items c.args.self.now.blocks.items k
    c.args.self.now.rows (omega arith) in omega arith

pub invariant_of-self : goal.invariant_of-self
invariant_of-self g c =
    let s = c.args.self.now in
    let blocks = s.blocks.items in
    let at = c.args.at in
    let block = c.index_mut.result.now in
    let within = place-within blocks at c.args.place block c.requires.at c.index_mut.ensures.value c.requires.high in
    let longer : length c.insert.new.self ≡ length block + 1 =
    ap (λ b. length b) c.insert.ensures
    ∙ length-insert block (c.args.place - c.start-start.result) c.args.element
    (omega (arith, within, c.start-start.ensures.start)) in
    let e = ap (λ b. length b) (block-is blocks at block c.requires.at c.index_mut.ensures.value) in
    let starts_are : c.len.result ≡ length s.starts.items = omega (arith, c.len.ensures) in
    let groups_are : c.len-groups.result ≡ length s.groups.items = omega (arith, c.len-groups.ensures) in
    let end_is = c.min-end.ensures ∙ ap (λ n. min n ((at / group_size + 1) * group_size)) starts_are in
    record {
      rows = AreRows-put s.groups.items c.raise-2.new.numbers.items s.starts.items c.raise.new.numbers.items blocks at
          c.min-end.result block c.insert.new.self s.rows c.requires.at c.index_mut.ensures.value
          (omega (arith, e, c.requires.room)) longer end_is c.raise.ensures.raised
          (subst (λ n. IsRaised (at / group_size + 1) n s.groups.items c.raise-2.new.numbers.items)
          groups_are c.raise-2.ensures.raised);
      fullness = omega (
        arith,
        full_of-set blocks at block c.insert.new.self c.requires.at c.index_mut.ensures.value,
        s.fullness,
        e,
        c.requires.room,
        c.full_count.ensures,
        ap (λ b. length b) (c.index.ensures
            ∙ get_or-set_same blocks at c.insert.new.self c.index.result.now c.requires.at),
      );
      places = record {
        used = omega (arith, length-set blocks at c.insert.new.self, s.places.used);
        of_blocks = s.places.of_blocks;
        of_starts = omega (arith, c.raise.ensures.capacity, s.places.of_starts);
        of_groups = omega (arith, c.raise-2.ensures.capacity, s.places.of_groups);
      };
    }
