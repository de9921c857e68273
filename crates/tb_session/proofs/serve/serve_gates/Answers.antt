-- The room comes back with all that was accepted.
use Rattle.std.proofs.Common.{ap, arith, sym, ◌∙◌}
use Rattle.tb_lock.specs.Passes.{view}
use Rattle.tb_session.proofs.ClosingLemmas.{serves_all, not_shorter}
use Rattle.tb_session.proofs.ServeLemmas.{reserved}
use Rattle.tb_session.proofs.Shares.{whole-enough}
use Rattle.tb_session.proofs.serve.serve_gates.Goals as goal

pub turns-served-requires-clause-share : goal.turns-served-requires-clause-share
turns-served-requires-clause-share g c κs within =
    whole-enough _ _ c.requires.few (ap (λ v. v.share) c.in-Ok.ensures.first)

pub turns-served-requires-clause-room : goal.turns-served-requires-clause-room
turns-served-requires-clause-room g c κs within = (
  c.reserve.ensures.items ∙ c.new-workers.ensures.items,
  (let room = reserved c.reserve.result _ c.reserve.ensures.ok (sym c.is_err.ensures.value ∙ c.if-is_err.false) in
      omega (arith, room, c.len.ensures)),
)

pub overflow_sub-accepted : goal.overflow_sub-accepted
overflow_sub-accepted g c =
    let longer = not_shorter g.D.Disk.disk g.C.Clock.clock g.G.Gate.gate g.G.Conn.Source.source g.G.Conn.Sink.sink
    c.args.room c.in-Ok-close.room (view c.in-Ok.made.1) (view c.turns-served.new.pass) c.args.gates.now.items
    c.turns-served.new.gates.items c.turns-served.result.0 c.turns-served.result.1 c.in-Ok.ensures.first
    c.turns-served.ensures.turns c.in-Ok-close.ensures.home in
    omega (arith, c.entries-before.ensures.entries, c.entries.ensures.entries, longer)

pub returns-clause-served : goal.returns-clause-served
returns-clause-served g c =
    serves_all g.D.Disk.disk g.C.Clock.clock g.G.Gate.gate g.G.Conn.Source.source g.G.Conn.Sink.sink c.args.room
    c.in-Ok-close.room (view c.in-Ok.made.1) (view c.turns-served.new.pass) c.args.gates.now.items
    c.turns-served.new.gates.items c.turns-served.result.0 c.turns-served.result.1 c.in-Ok.ensures.first
    c.turns-served.ensures.turns c.in-Ok-close.ensures.home _
    (omega (arith, c.entries-before.ensures.entries, c.entries.ensures.entries))
