-- What was read behind the gate is what remains there.
use Rattle.std.proofs.Common.{arith, ap, ◌∙◌}
use Rattle.tb_desk.specs.Desks.{DeskView}
use Rattle.tb_desk.specs.Stands.{payloads_of}
use Rattle.tb_desk.proofs.GroupLemmas.{gate-bound}
use Rattle.tb_desk.proofs.RemainsLemmas.{HasRemains-desk}
use Rattle.tb_desk.proofs.desk.Desk.remains.Goals as goal

pub read_behind-requires-clause-end : goal.read_behind-requires-clause-end
read_behind-requires-clause-end g c =
    let stands = c.self.invariant.0.stands in
    omega (
      arith,
      stands.place,
      gate-bound stands.groups c.self.inside.host.history stands.whole stands.sizes stands.legal,
    )

pub returns-clause-finds : goal.returns-clause-finds
returns-clause-finds g c =
    let inside = c.self.inside in
    let journal = inside.journal in
    let stands = c.self.invariant.0.stands in
    let same = c.read_behind.ensures.same in
    rw (← c.self.view_is)
    (HasRemains-desk (g.D.Disk.disk journal.disk).past (payloads_of stands.groups) inside.doubt.items journal.gate
    journal.ordinal c.read_behind.new.into.payload c.gate-gate.result c.ordinal-ordinal.result c.payload.result.now
    c.remains_of.result
    (ap (λ (view : DeskView g.row.D.Denot). view.doubt) c.self.view_is ∙ c.requires.sure) stands.told
    c.read_behind.ensures.many c.in_ok-read_behind.ensures.bytes (c.gate-gate.ensures ∙ same.0)
    (c.ordinal-ordinal.ensures ∙ same.1) c.payload.ensures c.remains_of.ensures)
