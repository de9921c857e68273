use Rattle.std.proofs.Common.{subst}
use Rattle.tb_commands.specs.Answers.{reply_text}
use Rattle.tb_commands.specs.ScriptLines.{SpellsLine}
use Rattle.tb_commands.specs.Standings.{standing}
use Rattle.tb_commands.proofs.ScriptStepLemmas.{Acts-here, ActsInVain-here, rest_whole}
use Rattle.tb_commands.proofs.run_command.act_on_line.Goals as goal

pub returns-in-Ok-write-clause-ends : goal.returns-in-Ok-write-clause-ends
returns-in-Ok-write-clause-ends g c =
    Acts-here c.args.operator.now c.args.line.now c.in-Some-Ask.ask
    (standing (g.D.Disk.disk c.args.desk.now.disk) c.args.desk.now)
    (standing (g.D.Disk.disk c.answer.new.desk.disk) c.answer.new.desk) (reply_text c.in-Ok.reply)
    (g.O.Sink.sink c.args.out.now) (g.O.Sink.sink c.write.new.out)
    (subst (SpellsLine c.args.line.now) c.in-Some-Ask.field-0-is c.in-Some-Ask.ensures.read)
    (rw (rest_whole c.args.line.now c.in-Some-Ask.ask.json_at) at c.in-Ok.ensures.answered) c.in-Ok-write.ensures.takes

pub returns-in-Ok-clause-ends : goal.returns-in-Ok-clause-ends
returns-in-Ok-clause-ends g c =
    ActsInVain-here c.args.operator.now c.args.line.now c.in-Some-Ask.ask
    (standing (g.D.Disk.disk c.args.desk.now.disk) c.args.desk.now)
    (standing (g.D.Disk.disk c.answer.new.desk.disk) c.answer.new.desk) (reply_text c.in-Ok.reply)
    (g.O.Sink.sink c.args.out.now) (g.O.Sink.sink c.write.new.out)
    (subst (SpellsLine c.args.line.now) c.in-Some-Ask.field-0-is c.in-Some-Ask.ensures.read)
    (rw (rest_whole c.args.line.now c.in-Some-Ask.ask.json_at) at c.in-Ok.ensures.answered) c.in-Err-write.ensures.fails
