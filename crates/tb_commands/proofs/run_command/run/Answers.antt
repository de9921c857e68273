use Rattle.std.proofs.Common.{refl}
use Rattle.tb_commands.specs.Standings.{standing}
use Rattle.tb_commands.proofs.DiskLemmas.{Keeps-closed, Unopened-here}
use Rattle.tb_commands.proofs.run_command.run.Goals as goal

pub returns-in-Ok-clause-ends : goal.returns-in-Ok-clause-ends
returns-in-Ok-clause-ends g c =
    let begun = c.in-Ok.ensures in
    let done = c.act_on_script-ending.ensures in
    let disk = c.into_disk.ensures in (
      standing (g.D.Disk.disk c.in-Ok.desk.disk) c.in-Ok.desk,
      standing (g.D.Disk.disk c.act_on_script-ending.new.desk.disk) c.act_on_script-ending.new.desk,
      Keeps-closed g.D.Disk.disk (g.D.Disk.disk c.args.disk) c.in-Ok.desk c.act_on_script-ending.new.desk
          c.into_disk.result (record {
            exact = begun.exact;
            made = begun.made;
            no_fault = begun.no_fault;
            harmless = begun.crash;
          }) (record {
            kept = done.kept;
            grown = done.grown;
            is = disk.disk;
            legal = disk.legal;
            accepted = disk.accepted;
            stands = disk.stands;
            leaves = disk.leaves;
            since = disk.since;
            counted = disk.counted;
          }),
      done.ends,
    )

pub returns-in-Err-clause-ends : goal.returns-in-Err-clause-ends
returns-in-Err-clause-ends g c =
    let refused = c.in-Err.ensures in
    record {
      unopened = Unopened-here c.in-Err.fault (g.D.Disk.disk c.args.disk) (g.D.Disk.disk c.in-Err.disk)
          refused.exact_refusal refused.crash_refused refused.refused refused.fault refused.no_fault_refused
          refused.count_refused;
      unread = refl;
      silent = refl;
    }
