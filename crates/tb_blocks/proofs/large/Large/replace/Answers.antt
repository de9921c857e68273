-- The other element stands at the place, and the blocks are as long as they were.
use Rattle.std.proofs.Common.{◌≡◌, ◌+◌, ◌-◌, ◌<◌, [], length, get_or, set, arith, ap, sym, ◌∙◌, subst, length-set}
use Rattle.tb_blocks.specs.Rows.{joined, before}
use Rattle.tb_blocks.proofs.JoinedLemmas.{joined-replace, joined-at}
use Rattle.tb_blocks.proofs.BeforeLemmas.{before-more}
use Rattle.tb_blocks.proofs.SureLemmas.{sure-take}
use Rattle.tb_blocks.proofs.WayLemmas.{filled-set}
use Rattle.tb_blocks.proofs.large.Large.replace.Goals as goal

pub returns-clause-value : goal.returns-clause-value
returns-clause-value g c =
    let o = c.block_of-at.ensures in
    let blocks = c.self.inside.rows.blocks.items in
    let inside : c.args.place < length (joined blocks) =
    subst (λ l. c.args.place < length l) (sym (λ i. (c.self.view_is i).elements)) c.requires in
    let high : c.args.place < before c.block_of-at.result blocks + length (get_or blocks c.block_of-at.result []) =
    omega (arith, o.inside inside, before-more blocks c.block_of-at.result o.at) in
    c.replace.ensures.value ∙ joined-at blocks c.block_of-at.result c.args.place c.replace.result o.at o.low high
    ∙ (λ i. get_or ((c.self.view_is i).elements) c.args.place c.replace.result)

pub returns-clause-elements : goal.returns-clause-elements
returns-clause-elements g c =
    let o = c.block_of-at.ensures in
    let blocks = c.self.inside.rows.blocks.items in
    let inside : c.args.place < length (joined blocks) =
    subst (λ l. c.args.place < length l) (sym (λ i. (c.self.view_is i).elements)) c.requires in
    let high : c.args.place < before c.block_of-at.result blocks + length (get_or blocks c.block_of-at.result []) =
    omega (arith, o.inside inside, before-more blocks c.block_of-at.result o.at) in
    ap (λ b. joined b) c.replace.ensures.blocks
    ∙ joined-replace blocks c.block_of-at.result c.args.place c.args.element o.at o.low high
    ∙ (λ i. set ((c.self.view_is i).elements) c.args.place c.args.element)

pub invariant_of-self : goal.invariant_of-self
invariant_of-self g c =
    let o = c.block_of-at.ensures in
    let ready = c.self.invariant.0 in
    let room = c.self.invariant.1 in
    let blocks = c.self.inside.rows.blocks.items in
    let at = c.block_of-at.result in
    let old = get_or blocks at [] in
    let new = set old (c.args.place - before at blocks) c.args.element in
    let inside : c.args.place < length (joined blocks) =
    subst (λ l. c.args.place < length l) (sym (λ i. (c.self.view_is i).elements)) c.requires in
    let some : 0 < length old = omega (arith, o.low, o.inside inside, before-more blocks at o.at) in
    let same : length new ≡ length old = length-set old (c.args.place - before at blocks) c.args.element in
    let count : length c.replace.new.self.blocks.items ≡ length blocks =
    ap (λ b. length b) c.replace.ensures.blocks ∙ length-set blocks at new in (
      record {
        paced = ready.paced;
        sure = rw c.replace.ensures.blocks
            (sure-take c.self.inside.pace c.self.inside.spare blocks at new (length c.self.inside.pool.free.items)
            o.at ready.sure (omega (arith, same)));
        begun = omega (arith, count, ready.begun);
        filled = rw c.replace.ensures.blocks (filled-set blocks at new ready.filled o.at (omega (arith, same, some)));
      },
      record {
        all = omega (arith, count, room.all, c.replace.ensures.room);
        back = omega (arith, count, room.back);
        few = omega (arith, count, room.few);
      },
    )
