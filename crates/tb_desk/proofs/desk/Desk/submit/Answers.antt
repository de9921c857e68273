-- A turn keeps what holds of every desk.
use Rattle.std.proofs.Common.{[], ◌∷◌, map, arith}
use Rattle.tb_desk.specs.Desks.{noted, replies_of}
use Rattle.tb_desk.proofs.AnswerLemmas.{replies-none}
use Rattle.tb_desk.proofs.DeskLemmas.{Stands-leaves, IsDesk-turn}
use Rattle.tb_desk.proofs.desk.Desk.submit.Goals as goal

pub invariant_of-self : goal.invariant_of-self
invariant_of-self g c =
    let d = g.D.Disk.disk in
    let inside = c.self.inside in
    let new = c.turn-reply.new in
    let ensures = c.turn-reply.ensures in
    let reply = c.turn-reply.result in (
      IsDesk-turn (d inside.opened.value.disk) (d inside.journal.disk) (d new.journal.disk) inside.journal.gate
          new.journal.gate inside.journal.doubt new.journal.doubt
          (record {
            submitter = c.args.submitter.now;
            moment = c.args.moment;
            messages = (c.args.number, c.args.message.now) ∷ [];
          })
          (record { history = inside.host.history; doubt = inside.doubt.items })
          (record { history = new.host.history; doubt = new.doubt.items }) (replies_of reply) ensures.turn.at
          inside.recovered inside.faults c.faults_after-self-inside.result (map noted inside.doubted.items)
          (map noted c.note.new.doubted.items) c.self.invariant.0 ensures.stands
          (omega arith) ensures.turn.turn ensures.crash ensures.count (λ none. ensures.fault (replies-none reply none))
          c.faults_after-self-inside.ensures c.note.ensures,
      record { entries_fit = ensures.buffers.0; bytes_fit = ensures.buffers.1 },
    )

pub returns-clause-leaves : goal.returns-clause-leaves
returns-clause-leaves g c =
    let new = c.turn-reply.new in
    Stands-leaves (g.D.Disk.disk new.journal.disk) new.journal.gate new.journal.doubt new.host.history new.doubt.items
    c.turn-reply.ensures.stands
