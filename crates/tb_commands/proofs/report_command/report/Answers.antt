use Rattle.std.proofs.Common.{subst, sym, ap, refl, [], append-nil}
use Rattle.tb_disk.specs.Disks.{DiskState}
use Rattle.tb_journal.specs.Journal.{Told}
use Rattle.tb_journal.specs.Opening.{BreaksOff, IsHarmless}
use Rattle.tb_journal.proofs.OpeningLemmas.{breaks_opened}
use Rattle.tb_commands.specs.Standings.{standing}
use Rattle.tb_commands.proofs.DiskLemmas.{Keeps-closed, Unopened-here, breaks_refused}
use Rattle.tb_commands.proofs.report_command.report.Goals as goal

pub returns-in-Ok-clause-ends : goal.returns-in-Ok-clause-ends
returns-in-Ok-clause-ends g c = λ input.
    let begun = c.in-Ok.ensures in
    let stands = standing (g.D.Disk.disk c.in-Ok.desk.disk) c.in-Ok.desk in
    let disk = c.into_disk.ensures in
    let same = ap g.D.Disk.disk disk.disk in
    record {
      ends = (
        stands,
        stands,
        Keeps-closed g.D.Disk.disk (g.D.Disk.disk c.args.disk) c.in-Ok.desk c.in-Ok.desk c.into_disk.result (record {
          exact = begun.exact;
          made = begun.made;
          no_fault = begun.no_fault;
          harmless = begun.crash;
        }) (record {
          kept = (refl, refl);
          grown = ([], sym (append-nil stands.history));
          is = disk.disk;
          legal = disk.legal;
          accepted = disk.accepted;
          stands = disk.stands;
          leaves = disk.leaves;
          since = disk.since;
          counted = disk.counted;
        }),
        (refl, c.write_answer-ending.ensures.reads),
      );
      unread = refl;
      steps = subst (λ (d : DiskState). Told (g.D.Disk.disk c.args.disk) d BreaksOff) (sym same)
          (breaks_opened (g.D.Disk.disk c.args.disk) (g.D.Disk.disk c.in-Ok.desk.disk) begun.steps);
      harmless = subst (λ (d : DiskState). Told (g.D.Disk.disk c.args.disk) d IsHarmless) (sym same) begun.crash;
    }

pub returns-in-Err-clause-ends : goal.returns-in-Err-clause-ends
returns-in-Err-clause-ends g c = λ input.
    let refused = c.in-Err.ensures in
    record {
      ends = record {
        unopened = Unopened-here c.in-Err.fault (g.D.Disk.disk c.args.disk) (g.D.Disk.disk c.in-Err.disk)
            refused.exact_refusal refused.crash_refused refused.refused refused.fault refused.no_fault_refused
            refused.count_refused;
        unread = refl;
        silent = refl;
      };
      unread = refl;
      steps = breaks_refused c.in-Err.fault (g.D.Disk.disk c.args.disk) (g.D.Disk.disk c.in-Err.disk) refused.refused;
      harmless = refused.crash_refused;
    }
