-- The host machine's verdict tells it.
use Rattle.std.proofs.Common.{◌↔◌, IsTrue, subst}
use Rattle.std.specs.Prelude.{Contains}
use Rattle.tb_desk.specs.Desks.{DeskView}
use Rattle.tb_desk.proofs.RepeatLemmas.{stands-iff}
use Rattle.tb_desk.proofs.desk.Desk.stands.Goals as goal

pub returns : goal.returns
returns g c =
    subst (λ (view : DeskView g.row.D.Denot). IsTrue c.repeats_at.result ↔ Contains view.host.history c.args.entry.now)
    c.self.view_is
    (stands-iff c.self.inside.host.history c.args.entry.now c.decide-verdict.result c.repeats_at.result
    c.self.invariant.0.stands.legal c.decide-verdict.ensures.verdict c.repeats_at.ensures)
