use Rattle.std.proofs.Common.{subst}
use Rattle.tb_link.specs.Sinks.{FailsToTake, Takes}
use Rattle.tb_commands.specs.Standings.{standing}
use Rattle.tb_commands.proofs.ImportLemmas.{IsImport-one}
use Rattle.tb_commands.proofs.import_command.send_run.Goals as goal

pub returns-in-Ok-write-clause-ends : goal.returns-in-Ok-write-clause-ends
returns-in-Ok-write-clause-ends g c = (
  c.send.new.text.items,
  IsImport-one c.args.sender.now (g.C.Clock.clock c.args.clock.now) (g.C.Clock.clock c.send.new.clock) c.args.run.now
      (standing (g.D.Disk.disk c.args.desk.now.disk) c.args.desk.now)
      (standing (g.D.Disk.disk c.send.new.desk.disk) c.send.new.desk) c.send.new.text.items c.in-Ok.ensures.sent,
  subst (Takes (g.O.Sink.sink c.args.out.now) (g.O.Sink.sink c.write.new.self)) c.deref.ensures.value
      c.in-Ok-write.ensures.takes,
)

pub returns-in-Err-write-clause-ends : goal.returns-in-Err-write-clause-ends
returns-in-Err-write-clause-ends g c = (
  c.send.new.text.items,
  IsImport-one c.args.sender.now (g.C.Clock.clock c.args.clock.now) (g.C.Clock.clock c.send.new.clock) c.args.run.now
      (standing (g.D.Disk.disk c.args.desk.now.disk) c.args.desk.now)
      (standing (g.D.Disk.disk c.send.new.desk.disk) c.send.new.desk) c.send.new.text.items c.in-Ok.ensures.sent,
  subst (FailsToTake (g.O.Sink.sink c.args.out.now) (g.O.Sink.sink c.write.new.self)) c.deref.ensures.value
      c.in-Err-write.ensures.fails,
)
