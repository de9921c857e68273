-- By the counts of the turns, which lie apart.
use Rattle.tb_session.proofs.FewLemmas.{few-faulted}
use Rattle.tb_session.proofs.laws.one_fault_one_turn.Goals as goal

pub returns : goal.returns
returns g c = record {
  few = λ room after olds news served accepted failed turns run cut.
      few-faulted g.D.Disk.disk g.C.Clock.clock g.G.Gate.gate g.G.Conn.Source.source g.G.Conn.Sink.sink room after olds
      news served accepted failed turns run cut;
}
