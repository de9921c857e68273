-- The block is as long as it was.
use Rattle.std.proofs.Common.{◌≡◌, ◌-◌, length, arith, ◌∙◌, ap, length-set}
use Rattle.tb_blocks.proofs.CountsLemmas.{full_of-set, AreRows-replace}
use Rattle.tb_blocks.proofs.rows.Rows.replace.Goals as goal

pub invariant_of-self : goal.invariant_of-self
invariant_of-self g c =
    let s = c.args.self.now in
    let blocks = s.blocks.items in
    let at = c.args.at in
    let block = c.index_mut.result.now in
    let same : length c.replace.new.self ≡ length block =
    ap (λ b. length b) c.replace.ensures.rest
    ∙ length-set block (c.args.place - c.start-start.result) c.args.element in
    record {
      rows = AreRows-replace s.groups.items s.starts.items blocks at block c.replace.new.self s.rows c.requires.at
          c.index_mut.ensures.value same;
      fullness = omega (
        arith,
        full_of-set blocks at block c.replace.new.self c.requires.at c.index_mut.ensures.value,
        s.fullness,
        same,
      );
      places = record {
        used = omega (arith, length-set blocks at c.replace.new.self, s.places.used);
        of_blocks = s.places.of_blocks;
        of_starts = s.places.of_starts;
        of_groups = s.places.of_groups;
      };
    }
