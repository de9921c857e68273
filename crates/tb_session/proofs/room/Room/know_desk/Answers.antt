-- What a crash leaves of a desk between calls.
use Rattle.tb_desk.specs.Desks.{held}
use Rattle.tb_session.proofs.CrashLemmas.{crash-still}
use Rattle.tb_session.proofs.room.Room.know_desk.Goals as goal

pub returns-clause-still : goal.returns-clause-still
returns-clause-still g c =
    crash-still (g.D.Disk.disk c.args.self.now.desk.disk) (held c.args.self.now.desk) c.entries-entries.ensures.leaves
