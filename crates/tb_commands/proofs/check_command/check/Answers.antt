use Rattle.std.proofs.Common.{sym, ap, ◌∙◌, refl, [], append-nil}
use Rattle.tb_journal.specs.Opening.{BreaksOff, IsHarmless}
use Rattle.tb_journal.proofs.OpeningLemmas.{breaks_opened}
use Rattle.tb_core.specs.declared.host.Host.{Host}
use Rattle.tb_commands.specs.Standings.{standing}
use Rattle.tb_commands.proofs.CheckLemmas.{ChecksDesk-here, unbegun-here}
use Rattle.tb_commands.proofs.DiskLemmas.{Keeps-closed, Unopened-here, breaks_refused}
use Rattle.tb_commands.proofs.FollowEndLemmas.{Told-same}
use Rattle.tb_commands.proofs.check_command.check.Goals as goal

pub returns-in-Ok-clause-ends : goal.returns-in-Ok-clause-ends
returns-in-Ok-clause-ends g c = λ input.
    let seen = g.D.Disk.disk in
    let begun = c.in-Ok.ensures in
    let first = standing (seen c.in-Ok.desk.disk) c.in-Ok.desk in
    let closed = c.tell_remains-ending.new.desk in
    let last = standing (seen closed.disk) closed in
    let done = c.tell_remains-ending.ensures in
    let disk = c.into_disk.ensures in
    let history = ap (λ (h : Host). h.history) done.read.host in
    let same = ap (λ (d : _). (seen d).past) disk.disk ∙ done.kept in
    record {
      ends = (
        first,
        last,
        Keeps-closed seen (seen c.args.disk) c.in-Ok.desk closed c.into_disk.result (record {
          exact = begun.exact;
          made = begun.made;
          no_fault = begun.no_fault;
          harmless = begun.crash;
        }) (record {
          kept = (done.read.opened, done.read.recovered);
          grown = ([], history ∙ sym (append-nil first.history));
          is = disk.disk;
          legal = disk.legal;
          accepted = disk.accepted;
          stands = disk.stands;
          leaves = disk.leaves;
          since = disk.since;
          counted = disk.counted;
        }),
        ChecksDesk-here c.tell_remains-ending.result _ _ (seen c.in-Ok.desk.disk) (seen closed.disk) first last
            begun.no_fault (ap seen disk.disk) done.kept history (done.read.doubt ∙ begun.made.0) done.told done.cause,
      );
      unread = refl;
      steps = Told-same BreaksOff (seen c.args.disk) (seen c.in-Ok.desk.disk) (seen c.into_disk.result) same
          (breaks_opened (seen c.args.disk) (seen c.in-Ok.desk.disk) begun.steps);
      harmless = Told-same IsHarmless (seen c.args.disk) (seen c.in-Ok.desk.disk) (seen c.into_disk.result) same
          begun.crash;
    }

pub returns-in-Ok-clause-unbegun : goal.returns-in-Ok-clause-unbegun
returns-in-Ok-clause-unbegun g c =
    unbegun-here c.tell_remains-ending.result _ _ c.tell_remains-ending.ensures.cause

pub returns-in-Err-clause-ends : goal.returns-in-Err-clause-ends
returns-in-Err-clause-ends g c = λ input.
    let refused = c.in-Err.ensures in
    record {
      ends = record {
        unopened = Unopened-here c.in-Err.fault (g.D.Disk.disk c.args.disk) (g.D.Disk.disk c.in-Err.disk)
            refused.exact_refusal refused.crash_refused refused.refused refused.fault refused.no_fault_refused
            refused.count_refused;
        unread = refl;
        silent = refl;
      };
      unread = refl;
      steps = breaks_refused c.in-Err.fault (g.D.Disk.disk c.args.disk) (g.D.Disk.disk c.in-Err.disk) refused.refused;
      harmless = refused.crash_refused;
    }
