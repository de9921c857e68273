-- A turn of one call.
use Rattle.std.proofs.Common.{sym, subst}
use Rattle.tb_lock.specs.Passes.{view}
use Rattle.tb_session.specs.Gains.{GainsOne}
use Rattle.tb_session.proofs.TurnLemmas.{may, gains}
use Rattle.tb_session.proofs.perform.perform_in_turn.Goals as goal

pub give-requires-clause-may : goal.give-requires-clause-may
give-requires-clause-may g c =
    may g.D.Disk.disk g.C.Clock.clock _ _ _ _ c.call-turn.result c.take-room.ensures.taken c.call-turn.ensures.calls
    c.call-turn.ensures.before (g.met.C.Clock.bounded c.take-room.result.clock)

pub returns-clause-gains : goal.returns-clause-gains
returns-clause-gains g c =
    subst (λ v. GainsOne (view c.args.pass.now) v c.args.key.now c.args.asked.now c.call-turn.result.answer)
    (sym c.give.ensures.given)
    (gains g.D.Disk.disk g.C.Clock.clock _ _ _ _ c.call-turn.result c.take-room.ensures.taken c.call-turn.ensures.calls
    c.call-turn.ensures.before (g.met.C.Clock.bounded c.take-room.result.clock) c.args.key.now c.args.asked.now
    c.call-turn.ensures.asked.0 c.call-turn.ensures.asked.1)
