-- What stands on the disk that is handed on, and what a crash leaves of it.
use Rattle.tb_desk.proofs.DeskLemmas.{Stands-leaves, Stands-contents}
use Rattle.tb_desk.proofs.desk.Desk.into_disk.Goals as goal

pub returns-clause-stands : goal.returns-clause-stands
returns-clause-stands g c =
    let inside = c.self.inside in
    rw (c.into_disk.ensures.disk, ← c.self.view_is)
    (Stands-contents (g.D.Disk.disk inside.journal.disk) inside.journal.gate inside.journal.doubt inside.host.history
    inside.doubt.items c.self.invariant.0.stands)

pub returns-clause-leaves : goal.returns-clause-leaves
returns-clause-leaves g c =
    let inside = c.self.inside in
    rw (c.into_disk.ensures.disk, ← c.self.view_is)
    (Stands-leaves (g.D.Disk.disk inside.journal.disk) inside.journal.gate inside.journal.doubt inside.host.history
    inside.doubt.items c.self.invariant.0.stands)

pub returns-clause-counted : goal.returns-clause-counted
returns-clause-counted g c = rw (c.into_disk.ensures.disk, ← c.self.view_is) c.self.invariant.0.counted
