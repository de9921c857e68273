-- A group, at the moment that the clock gave.
use Rattle.std.proofs.Common.{sym, subst}
use Rattle.tb_gates.specs.Clocks.{ReadsClock}
use Rattle.tb_session.proofs.GroupLemmas.{are-calls}
use Rattle.tb_session.proofs.room.Room.group.Goals as goal

pub returns-clause-calls : goal.returns-clause-calls
returns-clause-calls g c = record {
  calls = are-calls c.args.key.now c.now-moment.result c.group_at-came.result c.args.messages.now
      c.group_at-came.new.verdicts;
  does = c.group_at-came.ensures.does;
  reads = subst (λ n. ReadsClock (g.C.Clock.clock c.args.self.now.clock) (g.C.Clock.clock n)
      c.now-moment.result.seconds)
      (sym c.group_at-came.ensures.same.2) c.now-moment.ensures.reads;
  same = record {
    operator = c.group_at-came.ensures.same.0;
    opened = c.group_at-came.ensures.same.1;
    recovered = c.group_at-came.ensures.recovered;
  };
  crash = c.group_at-came.ensures.crash;
}
