use Rattle.std.proofs.Common.{subst}
use Rattle.tb_desk.specs.Turn.{Asked}
use Rattle.tb_commands.specs.Standings.{Standing, standing}
use Rattle.tb_commands.specs.Turns.{MakesTurn}
use Rattle.tb_commands.proofs.AnswerLemmas.{standing-same}
use Rattle.tb_commands.proofs.ImportLemmas.{MakesTurn-group}
use Rattle.tb_commands.proofs.import_command.submit.Goals as goal

pub returns-clause-turn : goal.returns-clause-turn
returns-clause-turn g c =
    let room = c.make_room_group.new.self in
    let same = standing-same g.D.Disk.disk c.args.desk.now room c.in_ok-make_room_group.ensures.same
    c.in_ok-make_room_group.ensures.history in
    let new = standing (g.D.Disk.disk c.submit_group.new.self.disk) c.submit_group.new.self in
    let asked : Asked =
    record { submitter = c.args.caller.now; moment = c.now-moment.result; messages = c.args.run.now } in
    let turn = c.submit_group.ensures.turn in (
      c.now-moment.result,
      c.now-moment.ensures.reads,
      turn.0,
      turn.1,
      subst (λ (old : Standing). MakesTurn asked old new turn.0) same
          (MakesTurn-group room.gate (g.D.Disk.disk room.disk) asked (standing (g.D.Disk.disk room.disk) room) new
          c.submit_group.result c.submit_group.new.verdicts turn.0 record {
            tells = turn.1;
            turns = turn.2;
            count = c.submit_group.ensures.count;
            fault = c.submit_group.ensures.fault;
            no_fault = c.submit_group.ensures.no_fault;
            doubted = c.submit_group.ensures.doubted;
          }),
    )
