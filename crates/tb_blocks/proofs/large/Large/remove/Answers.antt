-- The element is gone from its place, and as many adds are sure.
use Rattle.std.proofs.Common.{◌≡◌, ◌+◌, ◌-◌, ◌<◌, [], length, get_or, arith, ap, sym, ◌∙◌, subst}
use Rattle.std.specs.List.{remove}
use Rattle.std.proofs.lemmas.List.Edits.{length-remove}
use Rattle.tb_blocks.specs.Rows.{joined, before}
use Rattle.tb_blocks.proofs.JoinedLemmas.{joined-take, joined-at}
use Rattle.tb_blocks.proofs.BeforeLemmas.{before-more}
use Rattle.tb_blocks.proofs.SureLemmas.{sure-take}
use Rattle.tb_blocks.proofs.WayLemmas.{filled-others}
use Rattle.tb_blocks.proofs.large.Large.remove.Goals as goal

pub free_empty-requires-clause-filled : goal.free_empty-requires-clause-filled
free_empty-requires-clause-filled g c =
    let blocks = c.self.inside.rows.blocks.items in
    rw c.take-element.ensures.blocks
    (filled-others blocks c.block_of-at.result
    (remove (get_or blocks c.block_of-at.result []) (c.args.place - before c.block_of-at.result blocks))
    c.self.invariant.0.filled c.block_of-at.ensures.at)

pub returns-clause-value : goal.returns-clause-value
returns-clause-value g c =
    let o = c.block_of-at.ensures in
    let blocks = c.self.inside.rows.blocks.items in
    let inside : c.args.place < length (joined blocks) =
    subst (λ l. c.args.place < length l) (sym (λ i. (c.self.view_is i).elements)) c.requires in
    let high : c.args.place < before c.block_of-at.result blocks + length (get_or blocks c.block_of-at.result []) =
    omega (arith, o.inside inside, before-more blocks c.block_of-at.result o.at) in
    c.take-element.ensures.value ∙ joined-at blocks c.block_of-at.result c.args.place c.take-element.result o.at o.low
    high ∙ (λ i. get_or ((c.self.view_is i).elements) c.args.place c.take-element.result)

pub returns-clause-elements : goal.returns-clause-elements
returns-clause-elements g c =
    let o = c.block_of-at.ensures in
    let blocks = c.self.inside.rows.blocks.items in
    let inside : c.args.place < length (joined blocks) =
    subst (λ l. c.args.place < length l) (sym (λ i. (c.self.view_is i).elements)) c.requires in
    let high : c.args.place < before c.block_of-at.result blocks + length (get_or blocks c.block_of-at.result []) =
    omega (arith, o.inside inside, before-more blocks c.block_of-at.result o.at) in
    c.free_empty.ensures.same ∙ ap (λ b. joined b) c.take-element.ensures.blocks
    ∙ joined-take blocks c.block_of-at.result c.args.place o.at o.low high
    ∙ (λ i. remove ((c.self.view_is i).elements) c.args.place)

pub invariant_of-self : goal.invariant_of-self
invariant_of-self g c =
    let o = c.block_of-at.ensures in
    let ready = c.self.invariant.0 in
    let blocks = c.self.inside.rows.blocks.items in
    let old = get_or blocks c.block_of-at.result [] in
    let p = c.args.place - before c.block_of-at.result blocks in
    let inside : c.args.place < length (joined blocks) =
    subst (λ l. c.args.place < length l) (sym (λ i. (c.self.view_is i).elements)) c.requires in
    let within : p < length old = omega (arith, o.low, o.inside inside, before-more blocks c.block_of-at.result o.at) in
    let shorter : length (remove old p) + 1 ≡ length old = length-remove old p within in (
      record {
        paced = ready.paced;
        sure = c.free_empty.ensures.sure c.self.inside.pace c.self.inside.spare
            (rw c.take-element.ensures.blocks
            (sure-take c.self.inside.pace c.self.inside.spare blocks c.block_of-at.result (remove old p)
            (length c.self.inside.pool.free.items) o.at ready.sure (omega (arith, shorter))));
        begun = c.free_empty.ensures.some;
        filled = c.free_empty.ensures.filled;
      },
      c.free_empty.ensures.room,
    )
