use Rattle.std.proofs.Common.{◌∙◌, sym}
use Rattle.tb_history.specs.Answer.{caller_of}
use Rattle.tb_history.specs.Roster.{registrations}
use Rattle.tb_commands.specs.Standings.{standing}
use Rattle.tb_commands.proofs.ImportLemmas.{AreAsMany-turn, AreSent-caller, AreSent-nobody}
use Rattle.tb_commands.proofs.import_command.send.Goals as goal

pub returns-clause-sent : goal.returns-clause-sent
returns-clause-sent g c =
    let who = caller_of (registrations c.args.desk.now.host.history) c.args.sender.now.operator c.args.sender.now.key in
    let old = standing (g.D.Disk.disk c.args.desk.now.disk) c.args.desk.now in
    let new = standing (g.D.Disk.disk c.submit.new.desk.disk) c.submit.new.desk in
    let turn = c.in_ok-reply.ensures.turn in
    AreSent-caller who c.in-Some.caller (g.C.Clock.clock c.args.clock.now) (g.C.Clock.clock c.submit.new.clock) turn.0
    c.args.run.now old new c.push_answers.new.text.items turn.2 (sym c.caller.ensures ∙ c.in-Some.is) turn.1 turn.4
    (c.push_answers.ensures.lines turn.2 turn.3 (AreAsMany-turn _ old new turn.2 turn.4))

pub returns-in_default-clause-sent : goal.returns-in_default-clause-sent
returns-in_default-clause-sent g c =
    AreSent-nobody (caller_of (registrations c.args.desk.now.host.history) c.args.sender.now.operator
    c.args.sender.now.key) (g.C.Clock.clock c.args.clock.now) c.args.run.now
    (standing (g.D.Disk.disk c.args.desk.now.disk) c.args.desk.now) c.push_refused.new.text.items
    (sym c.caller.ensures ∙ c.in_default.is) c.push_refused.ensures.lines
