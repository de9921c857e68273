use Rattle.std.proofs.Common.{◌≡◌, ◌+◌, ◌-◌, ◌^◌, false}
use Rattle.tb_replica.specs.Followers.{following}
use Rattle.tb_commands.specs.FollowTakeRun.{IsSureSince}
use Rattle.tb_commands.specs.ParcelInput.{to_come}
use Rattle.tb_commands.specs.Standings.{standing}
use Rattle.tb_commands.proofs.FollowTakeLemmas.{SoFar}
use Rattle.tb_commands.proofs.follow_take_command.take_all.Given as goal

-- the parcels so far were taken, and nothing failed or ended
abbrev pub invariant-parcels : goal.invariant-parcels
invariant-parcels g l =
    SoFar l.fn.follower.desk.host.history l.number (g.I.Source.source l.fn.input) (following l.follower)
    (to_come l.reader (g.I.Source.source l.input)) (g.I.Source.source l.input).reads
    × IsSureSince (standing (g.D.Disk.disk l.fn.follower.desk.disk) l.fn.follower.desk)
    (standing (g.D.Disk.disk l.follower.desk.disk) l.follower.desk)
    × ((g.I.Source.source l.input).faults ≡ (g.I.Source.source l.fn.input).faults)
    × ((g.D.Disk.disk l.follower.desk.disk).faults ≡ (g.D.Disk.disk l.fn.follower.desk.disk).faults)
    × (l.follower.desk.opened ≡ l.fn.follower.desk.opened)
    × (l.follower.desk.recovered ≡ l.fn.follower.desk.recovered)
    × (l.reader.pieces.ended ≡ false)

abbrev pub decreases-parcels : goal.decreases-parcels
decreases-parcels g l = 2 ^ 40 + 2 - l.number
