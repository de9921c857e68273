use Rattle.std.proofs.Common.{◌≡◌, ◌≤◌, ◌-◌}
use Rattle.std.specs.Prelude.{IfSome}
use Rattle.tb_journal.specs.Places.{StandsAt}
use Rattle.tb_journal.specs.Windows.{Shows}
use Rattle.tb_desk.specs.Desks.{IsRead}
use Rattle.tb_commands.proofs.FollowGroupLemmas.{WroteTo}
use Rattle.tb_commands.proofs.follow_send_command.send_groups.Given as goal

-- the disk was read up to a place, and where it tells its contents the entries before that place were written
abbrev pub invariant-groups : goal.invariant-groups
invariant-groups g l =
    StandsAt (g.D.Disk.disk l.desk.disk) l.desk.gate l.at
    × Shows (g.D.Disk.disk l.desk.disk) l.window
    × IsRead l.fn.desk l.desk
    × ((g.D.Disk.disk l.desk.disk).past ≡ (g.D.Disk.disk l.fn.desk.disk).past)
    × ((g.D.Disk.disk l.desk.disk).faults ≡ (g.D.Disk.disk l.fn.desk.disk).faults)
    × ((g.O.Sink.sink l.out).faults ≡ (g.O.Sink.sink l.fn.out).faults)
    × (l.before ≤ l.at)
    × IfSome (g.D.Disk.disk l.fn.desk.disk).past
    (WroteTo l.from l.fn.desk.host.history l.fn.desk.gate l.at l.before (g.O.Sink.sink l.fn.out) (g.O.Sink.sink l.out))

abbrev pub decreases-groups : goal.decreases-groups
decreases-groups g l = l.fn.desk.gate - l.at
