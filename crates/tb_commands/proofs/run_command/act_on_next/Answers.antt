use Rattle.std.proofs.Common.{ℕ, List, ap, subst, ◌∙◌, refl}
use Rattle.std.specs.Prelude.{Ok}
use Rattle.tb_lines.specs.Lines.{ahead, current}
use Rattle.tb_commands.specs.ScriptSteps.{LineEnds}
use Rattle.tb_commands.specs.Standings.{standing}
use Rattle.tb_commands.proofs.ScriptStepLemmas.{NextEnds-line, NoneStands-end, NoneStands-long}
use Rattle.tb_commands.proofs.run_command.act_on_next.Goals as goal

pub returns-in-Ok-Line-clause-ends : goal.returns-in-Ok-Line-clause-ends
returns-in-Ok-Line-clause-ends g c =
    NextEnds-line c.args.operator.now c.args.number c.act_on_line.result (current c.next_line.new.self) _ _
    (rw c.in-Ok-Line.field-0-is at c.in-Ok-Line.ensures.finds)
    (c.next_line.ensures.reads (c.in-Ok-Line.is ∙ ap Ok c.in-Ok-Line.field-0-is)) c.in-Ok-Line.ensures.no_fault
    (subst (λ (line : List ℕ). LineEnds c.args.operator.now c.args.number line c.act_on_line.result
    (standing (g.D.Disk.disk c.args.desk.now.disk) c.args.desk.now)
    (standing (g.D.Disk.disk c.act_on_line.new.desk.disk) c.act_on_line.new.desk) (g.O.Sink.sink c.args.out.now)
    (g.O.Sink.sink c.act_on_line.new.out)) c.line.ensures c.act_on_line.ensures.ends)

pub returns-in-Ok-End-clause-ends : goal.returns-in-Ok-End-clause-ends
returns-in-Ok-End-clause-ends g c = (
  refl,
  c.in-Ok-End.ensures.no_fault,
  λ text told. NoneStands-end text (current c.next_line.new.self)
      (ahead c.next_line.new.self (g.I.Source.source c.next_line.new.input))
      ((rw c.in-Ok-End.field-0-is at c.in-Ok-End.ensures.finds) text told),
  (refl, refl),
)

pub returns-in-Ok-TooLong-clause-ends : goal.returns-in-Ok-TooLong-clause-ends
returns-in-Ok-TooLong-clause-ends g c = (
  refl,
  c.in-Ok-TooLong.ensures.no_fault,
  λ text told. NoneStands-long text (current c.next_line.new.self)
      (ahead c.next_line.new.self (g.I.Source.source c.next_line.new.input))
      ((rw c.in-Ok-TooLong.field-0-is at c.in-Ok-TooLong.ensures.finds) text told),
  (refl, refl),
)
