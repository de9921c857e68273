-- The element stands at its place, and one add less is sure.
use Rattle.std.proofs.Common.{◌≡◌, ◌+◌, ◌-◌, ◌≤◌, [], length, get_or, arith, ap, ◌∙◌, length-set}
use Rattle.std.specs.List.{insert}
use Rattle.std.proofs.lemmas.List.Edits.{length-insert}
use Rattle.tb_blocks.specs.Rows.{joined, before}
use Rattle.tb_blocks.proofs.JoinedLemmas.{joined-put}
use Rattle.tb_blocks.proofs.BeforeLemmas.{before-more}
use Rattle.tb_blocks.proofs.large.Large.insert.Goals as goal

pub returns-clause-elements : goal.returns-clause-elements
returns-clause-elements g c =
    let w = c.make_way-way.ensures.way in
    let at = c.make_way-way.result.at in
    let blocks = c.make_way-way.new.rows.blocks.items in
    let high : c.args.place ≤ before at blocks + length (get_or blocks at []) =
    omega (arith, w.high, before-more blocks at w.there) in
    ap (λ b. joined b) c.put.ensures.blocks ∙ joined-put blocks at c.args.place c.args.element w.there w.low high
    ∙ ap (λ l. insert l c.args.place c.args.element) w.same
    ∙ (λ i. insert ((c.self.view_is i).elements) c.args.place c.args.element)

pub invariant_of-self : goal.invariant_of-self
invariant_of-self g c =
    let w = c.make_way-way.ensures.way in
    let at = c.make_way-way.result.at in
    let blocks = c.make_way-way.new.rows.blocks.items in
    let block = insert (get_or blocks at []) (c.args.place - before at blocks) c.args.element in
    let longer : length block ≡ length (get_or blocks at []) + 1 =
    length-insert (get_or blocks at []) (c.args.place - before at blocks) c.args.element
    (omega (arith, w.high, before-more blocks at w.there)) in
    let same : length c.put.new.self.blocks.items ≡ length blocks =
    ap (λ b. length b) c.put.ensures.blocks ∙ length-set blocks at block in
    let room = c.make_way-way.ensures.room in (
      record {
        paced = c.make_way-way.ensures.pace;
        sure = rw c.put.ensures.blocks (c.make_way-way.ensures.sure block longer);
        begun = omega (arith, same, w.there);
        filled = rw c.put.ensures.blocks (c.make_way-way.ensures.filled block (omega arith));
      },
      record {
        all = omega (arith, same, room.all, c.put.ensures.room);
        back = omega (arith, same, room.back);
        few = omega (arith, same, room.few);
      },
    )
