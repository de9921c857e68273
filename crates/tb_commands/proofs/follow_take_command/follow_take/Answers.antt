use Rattle.std.proofs.Common.{ap, refl}
use Rattle.tb_commands.specs.Standings.{standing}
use Rattle.tb_commands.proofs.DiskLemmas.{Keeps-closed, Unopened-here}
use Rattle.tb_commands.proofs.FollowEndLemmas.{TakeEnds-since}
use Rattle.tb_commands.proofs.follow_take_command.follow_take.Goals as goal

pub returns-in-Ok-clause-ends : goal.returns-in-Ok-clause-ends
returns-in-Ok-clause-ends g c =
    let seen = g.D.Disk.disk in
    let begun = c.in-Ok.ensures in
    let opened = c.in-Ok.follower.desk in
    let closed = c.take_and_tell-ending.new.follower.desk in
    let done = c.take_and_tell-ending.ensures in
    let disk = c.into_disk.ensures in (
      standing (seen opened.disk) opened,
      standing (seen closed.disk) closed,
      Keeps-closed seen (seen c.args.disk) opened closed c.into_disk.result (record {
        exact = begun.exact;
        made = (begun.made.sure, begun.made.recovered, begun.made.faults, begun.made.opened, begun.made.doubted);
        no_fault = begun.no_fault;
        harmless = begun.crash;
      }) (record {
        kept = done.kept;
        grown = done.grown;
        is = disk.disk;
        legal = disk.legal;
        accepted = disk.accepted;
        stands = disk.stands;
        leaves = disk.leaves;
        since = disk.since;
        counted = disk.counted;
      }),
      TakeEnds-since (g.I.Source.source c.args.input.now) (g.I.Source.source c.take_and_tell-ending.new.input)
          (standing (seen opened.disk) opened) (standing (seen closed.disk) closed) c.take_and_tell-ending.result
          _ _ (seen opened.disk) (seen closed.disk) begun.no_fault (ap seen disk.disk) done.ends,
    )

pub returns-in-Err-clause-ends : goal.returns-in-Err-clause-ends
returns-in-Err-clause-ends g c =
    let refused = c.in-Err.ensures in
    record {
      unopened = Unopened-here c.in-Err.fault (g.D.Disk.disk c.args.disk) (g.D.Disk.disk c.in-Err.disk)
          refused.exact_refusal refused.crash_refused refused.refused refused.fault refused.no_fault_refused
          refused.count_refused;
      unread = refl;
      silent = refl;
    }
