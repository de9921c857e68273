use Rattle.std.proofs.Common.{subst}
use Rattle.tb_desk.specs.Desks.{replies_of}
use Rattle.tb_commands.specs.Replies.{asked_by}
use Rattle.tb_commands.specs.Standings.{Standing, standing}
use Rattle.tb_commands.specs.Turns.{MakesTurn}
use Rattle.tb_commands.proofs.AnswerLemmas.{standing-same}
use Rattle.tb_commands.proofs.TurnLemmas.{MakesTurn-single}
use Rattle.tb_commands.proofs.answer.submit.Goals as goal

pub returns-clause-turn : goal.returns-clause-turn
returns-clause-turn g c =
    let room = c.make_room.new.self in
    let same = standing-same g.D.Disk.disk c.args.desk.now room c.in_ok-make_room.ensures.same
    c.in_ok-make_room.ensures.history in
    let new = standing (g.D.Disk.disk c.submit.new.self.disk) c.submit.new.self in
    subst (λ (old : Standing). MakesTurn (asked_by c.args.caller.now c.args.moment c.args.number c.args.message.now)
    old new
    (replies_of c.submit.result)) same
    (MakesTurn-single room.gate (g.D.Disk.disk room.disk)
    (asked_by c.args.caller.now c.args.moment c.args.number c.args.message.now)
    (standing (g.D.Disk.disk room.disk) room) new c.submit.result c.submit.ensures.turn c.submit.ensures.count
    c.submit.ensures.fault c.submit.ensures.no_fault c.submit.ensures.doubted)
