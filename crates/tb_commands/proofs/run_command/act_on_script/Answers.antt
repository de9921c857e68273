use Rattle.std.proofs.Common.{◌+◌, subst, ◌∙◌, refl, arith}
use Rattle.std.specs.Prelude.{Option}
use Rattle.tb_commands.specs.ScriptSteps.{NextEnds, RunState}
use Rattle.tb_commands.specs.Standings.{standing}
use Rattle.tb_commands.specs.declared.command_endings.TextEnding.{TextEnding}
use Rattle.tb_commands.proofs.GrownLemmas.{run-goes}
use Rattle.tb_commands.proofs.ScriptLemmas.{
  HasGrown-end,
  ScriptEnds-here,
  SoFar-next,
  SoFar-start,
  Stopped-full,
}
use Rattle.tb_commands.proofs.run_command.act_on_script.Goals as goal

pub loop-read-init : goal.loop-read-init
loop-read-init g c =
    (SoFar-start c.args.operator.now _ c.new-reader.ensures.empty c.new-reader.ensures.going, refl, refl)

pub loop-read-preserved : goal.loop-read-preserved
loop-read-preserved g c =
    let now : RunState = record {
      reader = c.loop-read.reader;
      source = g.I.Source.source c.loop-read.input;
      stands = standing (g.D.Disk.disk c.loop-read.desk.disk) c.loop-read.desk;
      out = g.O.Sink.sink c.loop-read.out;
    } in
    let new : RunState = record {
      reader = c.act_on_next.new.reader;
      source = g.I.Source.source c.act_on_next.new.input;
      stands = standing (g.D.Disk.disk c.act_on_next.new.desk.disk) c.act_on_next.new.desk;
      out = g.O.Sink.sink c.act_on_next.new.out;
    } in (
      SoFar-next c.args.operator.now c.loop-read.read (g.I.Source.source c.args.input.now)
          (g.O.Sink.sink c.args.out.now) (standing (g.D.Disk.disk c.args.desk.now.disk) c.args.desk.now) now
          c.loop-read.invariant.0 new c.act_on_next.ensures.alone c.act_on_next.ensures.once c.act_on_next.result
          c.in_default.not-Some c.act_on_next.ensures.ends,
      c.act_on_next.ensures.kept.0 ∙ c.loop-read.invariant.1,
      c.act_on_next.ensures.kept.1 ∙ c.loop-read.invariant.2,
    )

pub returns-in-Some-clause-ends : goal.returns-in-Some-clause-ends
returns-in-Some-clause-ends g c =
    let now : RunState = record {
      reader = c.loop-read.reader;
      source = g.I.Source.source c.loop-read.input;
      stands = standing (g.D.Disk.disk c.loop-read.desk.disk) c.loop-read.desk;
      out = g.O.Sink.sink c.loop-read.out;
    } in
    let new : RunState = record {
      reader = c.act_on_next.new.reader;
      source = g.I.Source.source c.act_on_next.new.input;
      stands = standing (g.D.Disk.disk c.act_on_next.new.desk.disk) c.act_on_next.new.desk;
      out = g.O.Sink.sink c.act_on_next.new.out;
    } in
    ScriptEnds-here c.args.operator.now c.loop-read.read (g.I.Source.source c.args.input.now)
    (g.O.Sink.sink c.args.out.now) (standing (g.D.Disk.disk c.args.desk.now.disk) c.args.desk.now) now
    c.loop-read.invariant.0 new c.act_on_next.ensures.alone c.act_on_next.ensures.once c.in-Some.ending (omega arith)
    (subst (λ (r : Option TextEnding). NextEnds c.args.operator.now (c.loop-read.read + 1) r now new) c.in-Some.is
    c.act_on_next.ensures.ends)

pub returns-in-Some-clause-grown : goal.returns-in-Some-clause-grown
returns-in-Some-clause-grown g c =
    let now : RunState = record {
      reader = c.loop-read.reader;
      source = g.I.Source.source c.loop-read.input;
      stands = standing (g.D.Disk.disk c.loop-read.desk.disk) c.loop-read.desk;
      out = g.O.Sink.sink c.loop-read.out;
    } in
    let new : RunState = record {
      reader = c.act_on_next.new.reader;
      source = g.I.Source.source c.act_on_next.new.input;
      stands = standing (g.D.Disk.disk c.act_on_next.new.desk.disk) c.act_on_next.new.desk;
      out = g.O.Sink.sink c.act_on_next.new.out;
    } in
    HasGrown-end c.args.operator.now c.loop-read.read (g.I.Source.source c.args.input.now)
    (g.O.Sink.sink c.args.out.now) (standing (g.D.Disk.disk c.args.desk.now.disk) c.args.desk.now) now
    c.loop-read.invariant.0 new c.act_on_next.ensures.alone c.act_on_next.ensures.once c.act_on_next.result
    c.act_on_next.ensures.ends

pub returns-in-Some-clause-kept : goal.returns-in-Some-clause-kept
returns-in-Some-clause-kept g c = (
  c.act_on_next.ensures.kept.0 ∙ c.loop-read.invariant.1,
  c.act_on_next.ensures.kept.1 ∙ c.loop-read.invariant.2,
)

pub returns-clause-ends : goal.returns-clause-ends
returns-clause-ends g c =
    let now : RunState = record {
      reader = c.loop-read.reader;
      source = g.I.Source.source c.loop-read.input;
      stands = standing (g.D.Disk.disk c.loop-read.desk.disk) c.loop-read.desk;
      out = g.O.Sink.sink c.loop-read.out;
    } in
    Stopped-full c.args.operator.now c.loop-read.read (g.I.Source.source c.args.input.now)
    (g.O.Sink.sink c.args.out.now) (standing (g.D.Disk.disk c.args.desk.now.disk) c.args.desk.now) now
    c.loop-read.invariant.0 1000001 (omega arith) (omega arith)

pub returns-clause-grown : goal.returns-clause-grown
returns-clause-grown g c =
    (run-goes c.args.operator.now (standing (g.D.Disk.disk c.args.desk.now.disk) c.args.desk.now)
    (standing (g.D.Disk.disk c.loop-read.desk.disk) c.loop-read.desk) c.loop-read.invariant.0.acted
    c.loop-read.invariant.0.replies c.loop-read.invariant.0.run).grown
