-- Where there is no memory nothing was done to the disk, and a new window keeps nothing.
use Rattle.tb_replica.proofs.OpenLemmas.{IsHarmless-nothing}
use Rattle.tb_replica.proofs.TakingLemmas.{IsFollower-fresh}
use Rattle.tb_replica.proofs.follower.Follower.open.Goals as goal

pub returns-in_default-clause-crash_refused : goal.returns-in_default-clause-crash_refused
returns-in_default-clause-crash_refused g c = IsHarmless-nothing (g.D.Disk.disk c.args.disk)

pub invariant_of-result : goal.invariant_of-result
invariant_of-result g c = IsFollower-fresh c.in-Ok.ahead c.in-Ok.ensures.0 c.in-Ok.ensures.1
