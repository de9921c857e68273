-- The first group stands behind the header.
use Rattle.std.proofs.Common.{◌∙◌, ap}
use Rattle.tb_desk.specs.Desks.{DeskView}
use Rattle.tb_desk.proofs.WalkingLemmas.{StandsAt-first, IsBehind-first}
use Rattle.tb_desk.proofs.desk.Desk.first_place.Goals as goal

pub returns-clause-place : goal.returns-clause-place
returns-clause-place g c =
    let inside = c.self.inside in
    let sure = ap (λ (view : DeskView g.row.D.Denot). view.doubt) c.self.view_is ∙ c.requires.sure in
    rw (c.first_place.ensures, ← c.self.view_is)
    (StandsAt-first (g.D.Disk.disk inside.journal.disk) inside.journal.gate inside.journal.doubt inside.host.history
    inside.doubt.items c.self.invariant.0.stands sure)

pub returns-clause-behind : goal.returns-clause-behind
returns-clause-behind g c =
    let inside = c.self.inside in
    let sure = ap (λ (view : DeskView g.row.D.Denot). view.doubt) c.self.view_is ∙ c.requires.sure in
    rw (c.first_place.ensures, ← c.self.view_is)
    (IsBehind-first (g.D.Disk.disk inside.journal.disk) inside.journal.gate inside.journal.doubt inside.host.history
    inside.doubt.items c.self.invariant.0.stands sure)
