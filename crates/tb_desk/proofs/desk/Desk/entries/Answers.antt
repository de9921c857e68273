-- What a crash leaves now.
use Rattle.tb_desk.proofs.DeskLemmas.{Stands-leaves}
use Rattle.tb_desk.proofs.desk.Desk.entries.Goals as goal

pub returns-clause-leaves : goal.returns-clause-leaves
returns-clause-leaves g c =
    let inside = c.self.inside in
    rw (← c.self.view_is)
    (Stands-leaves (g.D.Disk.disk inside.journal.disk) inside.journal.gate inside.journal.doubt inside.host.history
    inside.doubt.items c.self.invariant.0.stands)
