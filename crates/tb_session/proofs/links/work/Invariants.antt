-- The links so far.
use Rattle.std.proofs.Common.{◌≡◌}
use Rattle.tb_session.specs.Work.{IsReady, WorksOn}
use Rattle.tb_session.proofs.links.work.Given as goal

-- the links so far were served, and no fault of the gate was met
abbrev pub invariant-loop : goal.invariant-loop
invariant-loop g l = record {
  ready : IsReady l.shared l.worker;
  on : WorksOn g.G.Gate.gate g.G.Conn.Source.source g.G.Conn.Sink.sink l.initial.worker l.worker;
  no_fault : (g.G.Gate.gate l.worker.gate).faults ≡ (g.G.Gate.gate l.initial.worker.gate).faults;
}
