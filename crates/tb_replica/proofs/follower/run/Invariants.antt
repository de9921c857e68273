-- What a run from here on does is what the whole run does.
use Rattle.std.proofs.Common.{◌≡◌, ◌+◌, ◌≤◌, [], length}
use Rattle.std.specs.List.{count_by}
use Rattle.std.specs.Option.{is_some}
use Rattle.tb_replica.specs.Following.{Following, Outcome, Runs}
use Rattle.tb_desk.specs.Desks.{held}
use Rattle.tb_desk.specs.Stands.{CrashesLeave}
use Rattle.tb_desk.specs.Turn.{Held}
use Rattle.tb_replica.specs.Crashes.{IsInDoubt, IsLeft, WaitsBehind}
use Rattle.tb_replica.specs.Followers.{AreInRange}
use Rattle.tb_replica.proofs.follower.run.Given as goal

abbrev pub decreases-kept : goal.decreases-kept
decreases-kept g l = count_by is_some l.ahead

abbrev pub invariant-kept : goal.invariant-kept
invariant-kept g l = record {
  sure : l.desk.doubt ≡ [];
  in_range : AreInRange l.ahead;
  window : length l.ahead ≡ 1023;
  few : l.added + count_by is_some l.ahead ≤ 1024;
  runs : (new : Following) (outcome : Outcome) → Runs new outcome l.desk.host.history l.ahead l.added
      → Runs new outcome l.initial.desk.host.history l.initial.ahead 1;
  longer : length l.initial.desk.host.history ≤ length l.desk.host.history;
  crash : CrashesLeave (IsLeft l.initial.desk.host.history (held l.desk)) (g.D.Disk.disk l.initial.desk.disk)
      (g.D.Disk.disk l.desk.disk);
  doubts : (new : Held) → IsInDoubt (WaitsBehind l.desk.host.history l.ahead) new
      → IsInDoubt (WaitsBehind l.initial.desk.host.history l.initial.ahead) new;
  doubted : l.desk.doubted ≡ l.initial.desk.doubted;
  faults : (g.D.Disk.disk l.desk.disk).faults ≡ (g.D.Disk.disk l.initial.desk.disk).faults;
  opened : l.desk.opened ≡ l.initial.desk.opened;
  recovered : l.desk.recovered ≡ l.initial.desk.recovered;
}
