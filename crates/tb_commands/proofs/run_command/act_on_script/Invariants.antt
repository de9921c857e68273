use Rattle.std.proofs.Common.{◌≡◌}
use Rattle.tb_commands.specs.Standings.{standing}
use Rattle.tb_commands.proofs.ScriptLemmas.{SoFar}
use Rattle.tb_commands.proofs.run_command.act_on_script.Given as goal

-- the lines so far were acted on, and the desk is the one that was opened
abbrev pub invariant-loop-read : goal.invariant-loop-read
invariant-loop-read g l =
    SoFar l.operator l.read (g.I.Source.source l.fn.input) (g.O.Sink.sink l.fn.out)
    (standing (g.D.Disk.disk l.fn.desk.disk) l.fn.desk) (record {
      reader = l.reader;
      source = g.I.Source.source l.input;
      stands = standing (g.D.Disk.disk l.desk.disk) l.desk;
      out = g.O.Sink.sink l.out;
    })
    × (l.desk.opened ≡ l.fn.desk.opened)
    × (l.desk.recovered ≡ l.fn.desk.recovered)
