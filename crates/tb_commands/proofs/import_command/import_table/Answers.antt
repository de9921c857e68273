use Rattle.std.proofs.Common.{subst}
use Rattle.std.specs.Prelude.{Err}
use Rattle.tb_commands.specs.TableInput.{AnswersInput}
use Rattle.tb_commands.specs.Standings.{standing}
use Rattle.tb_commands.specs.declared.command_endings.TextEnding.{TextEnding}
use Rattle.tb_commands.proofs.ImportEndLemmas.{TableEnds-none, TableEnds-rows, rows-no_fault, rows-read}
use Rattle.tb_commands.proofs.import_command.import_table.Goals as goal

pub send_rows-requires-clause-bids : goal.send_rows-requires-clause-bids
send_rows-requires-clause-bids g c =
    let has = rows-read (g.I.Source.source c.args.input.now) (g.I.Source.source c.read_table.new.input)
    c.read_table.result c.in-Ok.table c.in-Ok.is c.read_table.ensures.answers in
    has.bids

pub send_rows-requires-clause-numbered : goal.send_rows-requires-clause-numbered
send_rows-requires-clause-numbered g c =
    let has = rows-read (g.I.Source.source c.args.input.now) (g.I.Source.source c.read_table.new.input)
    c.read_table.result c.in-Ok.table c.in-Ok.is c.read_table.ensures.answers in
    has.numbered

pub returns-in-Ok-clause-ends : goal.returns-in-Ok-clause-ends
returns-in-Ok-clause-ends g c =
    let has = rows-read (g.I.Source.source c.args.input.now) (g.I.Source.source c.read_table.new.input)
    c.read_table.result c.in-Ok.table c.in-Ok.is c.read_table.ensures.answers in
    TableEnds-rows c.args.sender.now (g.C.Clock.clock c.args.clock.now) (g.C.Clock.clock c.send_rows.new.clock)
    (g.I.Source.source c.args.input.now) (g.I.Source.source c.read_table.new.input) (g.O.Sink.sink c.args.out.now)
    (g.O.Sink.sink c.send_rows.new.out)
    (standing (g.D.Disk.disk c.args.desk.now.disk) c.args.desk.now)
    (standing (g.D.Disk.disk c.send_rows.new.desk.disk) c.send_rows.new.desk) c.send_rows.result c.in-Ok.table has
    c.send_rows.ensures.ends

pub returns-in-Ok-clause-no_fault : goal.returns-in-Ok-clause-no_fault
returns-in-Ok-clause-no_fault g c = λ is.
    let has = rows-read (g.I.Source.source c.args.input.now) (g.I.Source.source c.read_table.new.input)
    c.read_table.result c.in-Ok.table c.in-Ok.is
    c.read_table.ensures.answers in (
      has.table.no_fault,
      rows-no_fault c.args.sender.now (g.C.Clock.clock c.args.clock.now) (g.C.Clock.clock c.send_rows.new.clock)
          c.in-Ok.table c.send_rows.result (g.O.Sink.sink c.args.out.now) (g.O.Sink.sink c.send_rows.new.out)
          (standing (g.D.Disk.disk c.args.desk.now.disk) c.args.desk.now)
          (standing (g.D.Disk.disk c.send_rows.new.desk.disk) c.send_rows.new.desk) c.send_rows.ensures.ends is,
    )

pub returns-in-Err-clause-ends : goal.returns-in-Err-clause-ends
returns-in-Err-clause-ends g c =
    TableEnds-none c.args.sender.now (g.C.Clock.clock c.args.clock.now) (g.I.Source.source c.args.input.now)
    (g.I.Source.source c.read_table.new.input) (g.O.Sink.sink c.args.out.now)
    (standing (g.D.Disk.disk c.args.desk.now.disk) c.args.desk.now) c.in-Err.ending
    (subst (AnswersInput (g.I.Source.source c.args.input.now) (g.I.Source.source c.read_table.new.input)) c.in-Err.is
    c.read_table.ensures.answers)

pub returns-in-Err-clause-no_fault : goal.returns-in-Err-clause-no_fault
returns-in-Err-clause-no_fault g c = λ is.
    absurd (subst (λ (e : TextEnding). AnswersInput (g.I.Source.source c.args.input.now)
    (g.I.Source.source c.read_table.new.input) (Err e)) is
    (subst (AnswersInput (g.I.Source.source c.args.input.now) (g.I.Source.source c.read_table.new.input)) c.in-Err.is
    c.read_table.ensures.answers))
