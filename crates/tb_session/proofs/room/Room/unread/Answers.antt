-- What couldn't be read is told by its fault.
use Rattle.std.proofs.Common.{sym, ◌∙◌, subst₂}
use Rattle.tb_session.specs.Turned.{Calls}
use Rattle.tb_session.proofs.DoesLemmas.{calls-fault}
use Rattle.tb_session.proofs.room.Room.unread.Goals as goal

pub returns-clause-calls : goal.returns-clause-calls
returns-clause-calls g c =
    let room = c.args.self.now in
    subst₂ (λ called said. Calls g.D.Disk.disk g.C.Clock.clock room room called said) (sym c.turn.ensures.call.0)
    (sym (c.turn.ensures.call.1 ∙ c.explain-answer.ensures))
    (calls-fault g.D.Disk.disk g.C.Clock.clock room c.args.key.now c.args.asked c.args.why
    c.know_desk.ensures.legal c.requires.fault c.know_desk.ensures.still)
