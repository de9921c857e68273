-- The disk is the desk's.
use Rattle.tb_replica.proofs.follower.Follower.into_disk.Goals as goal

pub returns-clause-stands : goal.returns-clause-stands
returns-clause-stands g c = rw (← c.self.view_is) c.into_disk.ensures.stands

pub returns-clause-counted : goal.returns-clause-counted
returns-clause-counted g c = rw (← c.self.view_is) c.into_disk.ensures.counted
