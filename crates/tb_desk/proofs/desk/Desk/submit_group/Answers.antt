-- A turn keeps what holds of every desk.
use Rattle.std.proofs.Common.{List, ◌++◌, map, ap, ◌∙◌}
use Rattle.tb_desk.specs.Desks.{PlacedGroup, noted}
use Rattle.tb_desk.proofs.AnswerLemmas.{turn-sure}
use Rattle.tb_desk.proofs.GroupAnswerLemmas.{told-none, told-some, told-counts, told-doubted}
use Rattle.tb_desk.proofs.DeskLemmas.{Stands-leaves, IsDesk-turn}
use Rattle.tb_desk.proofs.desk.Desk.submit_group.Goals as goal

pub invariant_of-self : goal.invariant_of-self
invariant_of-self g c =
    let d = g.D.Disk.disk in
    let inside = c.self.inside in
    let new = c.turn_group-reply.new in
    let ensures = c.turn_group-reply.ensures in
    let reply = c.turn_group-reply.result in
    let told = ensures.turn in (
      IsDesk-turn (d inside.opened.value.disk) (d inside.journal.disk) (d new.journal.disk) inside.journal.gate
          new.journal.gate inside.journal.doubt new.journal.doubt
          (record { submitter = c.args.submitter.now; moment = c.args.moment; messages = c.args.messages.now })
          (record { history = inside.host.history; doubt = inside.doubt.items })
          (record { history = new.host.history; doubt = new.doubt.items }) told.0 told.2.at inside.recovered
          inside.faults c.faults_after_group-self-inside.result (map noted inside.doubted.items)
          (map noted c.note_group.new.doubted.items) c.self.invariant.0 ensures.stands
          c.requires.size.1 told.2.turn
          ensures.crash ensures.count (λ none. ensures.fault (told-none reply new.verdicts told.0 told.1 none))
          (told-counts reply new.verdicts told.0 inside.faults c.faults_after_group-self-inside.result told.1
          c.faults_after_group-self-inside.ensures)
          (c.note_group.ensures ∙ ap (λ (more : List PlacedGroup). map noted inside.doubted.items ++ more)
          (told-doubted reply new.verdicts told.0 (record { history = new.host.history; doubt = new.doubt.items })
          told.1)),
      record { entries_fit = ensures.buffers.0; bytes_fit = ensures.buffers.1 },
    )

pub returns-clause-sure : goal.returns-clause-sure
returns-clause-sure g c given =
    let d = g.D.Disk.disk in
    let inside = c.self.inside in
    let new = c.turn_group-reply.new in
    let told = c.turn_group-reply.ensures.turn in
    turn-sure inside.journal.gate (d inside.journal.disk)
    (record { submitter = c.args.submitter.now; moment = c.args.moment; messages = c.args.messages.now })
    (record { history = inside.host.history; doubt = inside.doubt.items })
    (record { history = new.host.history; doubt = new.doubt.items }) told.0 told.2.at told.2.turn
    (told-some c.turn_group-reply.result new.verdicts told.0 told.1 given)

pub returns-clause-leaves : goal.returns-clause-leaves
returns-clause-leaves g c =
    let new = c.turn_group-reply.new in
    Stands-leaves (g.D.Disk.disk new.journal.disk) new.journal.gate new.journal.doubt new.host.history new.doubt.items
    c.turn_group-reply.ensures.stands
