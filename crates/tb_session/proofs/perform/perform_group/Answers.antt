-- A turn that bids share.
use Rattle.std.proofs.Common.{refl, sym, subst}
use Rattle.tb_lock.specs.Passes.{view}
use Rattle.tb_lock.specs.Turns.{MayGive, calls_of, given}
use Rattle.tb_session.specs.Groups.{GainsGroup, answer_of, told_together}
use Rattle.tb_session.specs.Rooms.{room_means}
use Rattle.tb_session.proofs.PerformLemmas.{group-gained, group-may}
use Rattle.tb_session.proofs.perform.perform_group.Goals as goal

pub give-requires-clause-may : goal.give-requires-clause-may
give-requires-clause-may g c =
    let means = room_means g.D.Disk.disk g.C.Clock.clock in
    let v = view c.take-room.new.pass in
    let turn = c.group_turn-turn in
    subst (λ l. MayGive means v (calls_of means v turn.new.self l) turn.new.self) (sym turn.ensures.told)
    (group-may g.D.Disk.disk g.C.Clock.clock _ _ _ _ c.take-room.ensures.taken c.args.key.now c.args.bids.now.items
    turn.result.moment turn.new.verdicts _ refl c.requires.size.0 c.requires.size.1 c.requires.bids
    (g.met.C.Clock.bounded c.take-room.result.clock) turn.result.came
    turn.ensures.calls turn.ensures.lacked)

pub returns-clause-gains : goal.returns-clause-gains
returns-clause-gains g c =
    let means = room_means g.D.Disk.disk g.C.Clock.clock in
    let v0 = view c.args.pass.now in
    let v = view c.take-room.new.pass in
    let turn = c.group_turn-turn in
    let bids = c.args.bids.now.items in
    let told = told_together turn.result in
    let said = answer_of turn.result.came in
    subst (λ w. GainsGroup v0 w c.args.key.now bids c.group_answer.result turn.new.verdicts) (sym c.give.ensures.given)
    (subst (λ a. GainsGroup v0 (given means v (calls_of means v turn.new.self told) turn.new.self) c.args.key.now bids a
    turn.new.verdicts) (sym c.group_answer.ensures)
    (subst (λ l. GainsGroup v0 (given means v (calls_of means v turn.new.self l) turn.new.self) c.args.key.now bids said
    turn.new.verdicts) (sym turn.ensures.told)
    (group-gained g.D.Disk.disk g.C.Clock.clock _ _ _ _ c.take-room.ensures.taken c.args.key.now bids
    turn.result.moment turn.new.verdicts _ refl c.requires.size.0 c.requires.size.1 c.requires.bids
    (g.met.C.Clock.bounded c.take-room.result.clock) turn.result.came
    turn.ensures.calls turn.ensures.lacked turn.ensures.tells)))
