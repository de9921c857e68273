use Rattle.std.proofs.Common.{refl}
use Rattle.tb_commands.proofs.DiskLemmas.{Unopened-here}
use Rattle.tb_host.proofs.ServeLemmas.{ServeEnds-room}
use Rattle.tb_host.proofs.serve_command.serve.Goals as goal

pub returns-in-Ok : goal.returns-in-Ok
returns-in-Ok g c =
    let begun = c.in-Ok.ensures in
    record {
      ends = ServeEnds-room g.D.Disk.disk g.C.Clock.clock g.G.Gate.gate g.G.Conn.Source.source g.G.Conn.Sink.sink
          c.args.operator.now (g.C.Clock.clock c.args.clock) c.serve_room.result.0 _ _ _ _
          (record {
            exact = begun.exact;
            harmless = begun.crash;
            opens = begun.steps;
            legal = c.entries-entries.ensures.legal;
            recovered = begun.made.1;
            sure = begun.made.0;
            unmet = begun.made.2;
            none = begun.made.4;
            no_fault = begun.no_fault;
            same = begun.made.3;
            operator_is = refl;
            clock_is = refl;
          })
          refl refl refl c.serve_room.ensures.ends;
    }

pub returns-in-Err : goal.returns-in-Err
returns-in-Err g c =
    let refused = c.in-Err.ensures in
    record {
      ends = record {
        unopened = Unopened-here c.in-Err.fault (g.D.Disk.disk c.args.disk) (g.D.Disk.disk c.in-Err.disk)
            refused.exact_refusal refused.crash_refused refused.refused refused.fault refused.no_fault_refused
            refused.count_refused;
        untaken = refl;
        silent = refl;
      };
    }
