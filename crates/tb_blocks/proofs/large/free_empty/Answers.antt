-- An empty block held nothing.
use Rattle.std.proofs.Common.{◌≡◌, ◌+◌, [], length, arith, ap, sym, ◌∙◌}
use Rattle.std.proofs.lemmas.List.{get_or_default, nil_from_length}
use Rattle.std.proofs.lemmas.List.Edits.{length-remove}
use Rattle.tb_blocks.proofs.JoinedLemmas.{joined-give_up}
use Rattle.tb_blocks.proofs.WayLemmas.{filled-remove}
use Rattle.tb_blocks.proofs.large.free_empty.Goals as goal

pub returns-clause-same : goal.returns-clause-same
returns-clause-same g c =
    let none : c.index.result.now ≡ [] =
    nil_from_length c.index.result.now (omega (arith, c.len.ensures.len, c.if-len-gt0.false)) in
    rw c.give_up.ensures.blocks (joined-give_up c.args.rows.now.blocks.items c.args.at c.requires.at
    (get_or_default c.args.rows.now.blocks.items c.args.at [] c.index.result.now c.requires.at ∙ sym c.index.ensures
    ∙ none))

pub returns-clause-filled : goal.returns-clause-filled
returns-clause-filled g c = rw c.give_up.ensures.blocks
    (filled-remove c.args.rows.now.blocks.items c.args.at c.requires.at c.requires.filled)

pub returns-clause-room : goal.returns-clause-room
returns-clause-room g c =
    let room = c.requires.room in
    let fewer : length c.give_up.new.self.blocks.items + 1 ≡ length c.args.rows.now.blocks.items =
    ap (λ b. length b + 1) c.give_up.ensures.blocks
    ∙ length-remove c.args.rows.now.blocks.items c.args.at c.requires.at in
    record {
      all = omega (arith, fewer, room.all, c.give_up.ensures.room, c.give.ensures.more);
      back = omega (arith, fewer, room.back, c.give.ensures.capacity, c.give.ensures.more);
      few = omega (arith, fewer, room.few, c.give.ensures.more);
    }
