use Rattle.std.proofs.Common.{◌≡◌, ℕ, ◌+◌, ◌<◌, List, ap, subst, ◌∙◌, refl, arith, drop, length}
use Rattle.std.specs.Prelude.{Option}
use Rattle.std.proofs.lemmas.List.{drop_all}
use Rattle.tb_link.specs.Sinks.{Takes}
use Rattle.tb_commands.specs.ImportRun.{SentRow}
use Rattle.tb_commands.specs.ImportSteps.{GroupEnds, SendsRuns}
use Rattle.tb_commands.specs.Standings.{standing}
use Rattle.tb_commands.specs.declared.command_endings.TextEnding.{TextEnding}
use Rattle.tb_commands.specs.declared.command_endings.TextEnding.TheVariants as ending
use Rattle.tb_commands.proofs.ImportEndLemmas.{rows-grown}
use Rattle.tb_commands.proofs.ImportLemmas.{RowsEnd-done, RowsEnd-here, SendsRuns-next, SendsRuns-start, behind-run, run-sendable, run-size, some-left}
use Rattle.tb_commands.proofs.import_command.send_rows.Goals as goal

pub loop-place-init : goal.loop-place-init
loop-place-init g c = (
  SendsRuns-start c.args.sender.now (g.C.Clock.clock c.args.clock.now) c.args.table.now
      (standing (g.D.Disk.disk c.args.desk.now.disk) c.args.desk.now) (g.O.Sink.sink c.args.out.now),
  omega arith,
  refl,
  refl,
  omega (arith, c.in-Ok-with_capacity.ensures.capacity),
  omega (arith, c.in-Ok.ensures.capacity),
)

pub returns-in_default-clause-ends : goal.returns-in_default-clause-ends
returns-in_default-clause-ends g c = (
  c.args.table.now,
  SendsRuns-start c.args.sender.now (g.C.Clock.clock c.args.clock.now) c.args.table.now
      (standing (g.D.Disk.disk c.args.desk.now.disk) c.args.desk.now) (g.O.Sink.sink c.args.out.now),
)

pub returns-in_default-with_capacity-clause-ends : goal.returns-in_default-with_capacity-clause-ends
returns-in_default-with_capacity-clause-ends g c = (
  c.args.table.now,
  SendsRuns-start c.args.sender.now (g.C.Clock.clock c.args.clock.now) c.args.table.now
      (standing (g.D.Disk.disk c.args.desk.now.disk) c.args.desk.now) (g.O.Sink.sink c.args.out.now),
)

pub send_run-requires-clause-size : goal.send_run-requires-clause-size
send_run-requires-clause-size g c =
    let size = run-size c.args.table.now c.deref.result.now c.loop-place.place
    (omega (arith, c.loop-place-test.true, c.len.ensures)) (c.deref.ensures.value ∙ c.put_run.ensures.run) in
    (size.0, size.1)

pub send_run-requires-clause-bids : goal.send_run-requires-clause-bids
send_run-requires-clause-bids g c =
    let run = c.deref.ensures.value ∙ c.put_run.ensures.run in
    (run-sendable c.args.table.now c.deref.result.now c.loop-place.place run (c.requires.bids, c.requires.numbered)).0

pub send_run-requires-clause-numbered : goal.send_run-requires-clause-numbered
send_run-requires-clause-numbered g c =
    let run = c.deref.ensures.value ∙ c.put_run.ensures.run in
    (run-sendable c.args.table.now c.deref.result.now c.loop-place.place run (c.requires.bids, c.requires.numbered)).1

pub overflow_add-place : goal.overflow_add-place
overflow_add-place g c =
    let size = run-size c.args.table.now c.put_run.new.run.items c.loop-place.place
    (omega (arith, c.loop-place-test.true, c.len.ensures)) c.put_run.ensures.run in
    omega (arith, size.2, c.len-place.ensures, c.len.ensures, c.len.type_inv)

pub loop-place-smaller : goal.loop-place-smaller
loop-place-smaller g c =
    let size = run-size c.args.table.now c.put_run.new.run.items c.loop-place.place
    (omega (arith, c.loop-place-test.true, c.len.ensures)) c.put_run.ensures.run in
    omega (arith, size.0, size.2, c.len-place.ensures)

pub loop-place-preserved : goal.loop-place-preserved
loop-place-preserved g c =
    let rows = c.args.table.now in
    let place = c.loop-place.place in
    let run = c.put_run.new.run.items in
    let clock = g.C.Clock.clock c.args.clock.now in
    let read = g.C.Clock.clock c.loop-place.clock in
    let clock' = g.C.Clock.clock c.send_run.new.clock in
    let first = standing (g.D.Disk.disk c.args.desk.now.disk) c.args.desk.now in
    let mid = standing (g.D.Disk.disk c.loop-place.desk.disk) c.loop-place.desk in
    let last = standing (g.D.Disk.disk c.send_run.new.desk.disk) c.send_run.new.desk in
    let out = g.O.Sink.sink c.args.out.now in
    let within : place < length rows = omega (arith, c.loop-place-test.true, c.len.ensures) in
    let is = c.deref.ensures.value ∙ c.put_run.ensures.run in
    let size = run-size rows run place within c.put_run.ensures.run in
    let taken : length run ≡ c.len-place.result = omega (arith, c.len-place.ensures) in
    let next = behind-run rows run place c.put_run.ensures.run ∙ ap (λ (n : ℕ). drop (place + n) rows) taken in
    let sent = SendsRuns-next c.args.sender.now clock rows first out read clock' mid last (drop place rows)
    c.deref.result.now (g.O.Sink.sink c.loop-place.out) (g.O.Sink.sink c.send_run.new.out) c.loop-place.invariant.0
    (some-left rows place within) is c.send_run.result c.in_default-send_run.not-Some c.send_run.ensures.ends in (
      subst (λ (r : List SentRow). SendsRuns c.args.sender.now clock clock' rows first last r
          (Takes out (g.O.Sink.sink c.send_run.new.out))) next sent,
      omega (arith, size.2, c.len-place.ensures),
      c.send_run.ensures.kept.0 ∙ c.loop-place.invariant.2,
      c.send_run.ensures.kept.1 ∙ c.loop-place.invariant.3,
      omega (arith, c.send_run.ensures.room, c.loop-place.invariant.4),
      omega (arith, c.put_run.ensures.room, c.loop-place.invariant.5),
    )

pub returns-in-Some-clause-ends : goal.returns-in-Some-clause-ends
returns-in-Some-clause-ends g c =
    let rows = c.args.table.now in
    let place = c.loop-place.place in
    let clock = g.C.Clock.clock c.args.clock.now in
    let read = g.C.Clock.clock c.loop-place.clock in
    let clock' = g.C.Clock.clock c.send_run.new.clock in
    let first = standing (g.D.Disk.disk c.args.desk.now.disk) c.args.desk.now in
    let mid = standing (g.D.Disk.disk c.loop-place.desk.disk) c.loop-place.desk in
    let last = standing (g.D.Disk.disk c.send_run.new.desk.disk) c.send_run.new.desk in
    let within : place < length rows = omega (arith, c.loop-place-test.true, c.len.ensures) in
    let is = c.deref.ensures.value ∙ c.put_run.ensures.run in
    RowsEnd-here c.args.sender.now clock rows first (g.O.Sink.sink c.args.out.now) read clock' mid last
    (drop place rows) c.deref.result.now (g.O.Sink.sink c.loop-place.out) (g.O.Sink.sink c.send_run.new.out)
    c.loop-place.invariant.0 (some-left rows place within) is c.in-Some.ending
    (subst (λ (r : Option TextEnding). GroupEnds c.args.sender.now read clock' c.deref.result.now r
    (g.O.Sink.sink c.loop-place.out) (g.O.Sink.sink c.send_run.new.out) mid last) c.in-Some.is c.send_run.ensures.ends)

pub returns-in-Some-clause-grown : goal.returns-in-Some-clause-grown
returns-in-Some-clause-grown g c =
    rows-grown c.args.sender.now (g.C.Clock.clock c.args.clock.now) (g.C.Clock.clock c.send_run.new.clock)
    c.args.table.now c.in-Some.ending (g.O.Sink.sink c.args.out.now) (g.O.Sink.sink c.send_run.new.out)
    (standing (g.D.Disk.disk c.args.desk.now.disk) c.args.desk.now)
    (standing (g.D.Disk.disk c.send_run.new.desk.disk) c.send_run.new.desk) (returns-in-Some-clause-ends g c)

pub returns-in-Some-clause-kept : goal.returns-in-Some-clause-kept
returns-in-Some-clause-kept g c = (
  c.send_run.ensures.kept.0 ∙ c.loop-place.invariant.2,
  c.send_run.ensures.kept.1 ∙ c.loop-place.invariant.3,
)

pub returns-clause-ends : goal.returns-clause-ends
returns-clause-ends g c =
    RowsEnd-done c.args.sender.now (g.C.Clock.clock c.args.clock.now) c.args.table.now
    (standing (g.D.Disk.disk c.args.desk.now.disk) c.args.desk.now) (g.O.Sink.sink c.args.out.now)
    (g.C.Clock.clock c.loop-place.clock) (standing (g.D.Disk.disk c.loop-place.desk.disk) c.loop-place.desk)
    (drop c.loop-place.place c.args.table.now) (g.O.Sink.sink c.loop-place.out) c.loop-place.invariant.0
    (drop_all c.loop-place.place c.args.table.now (omega (arith, c.loop-place-test.false, c.len.ensures)))

pub returns-clause-grown : goal.returns-clause-grown
returns-clause-grown g c =
    rows-grown c.args.sender.now (g.C.Clock.clock c.args.clock.now) (g.C.Clock.clock c.loop-place.clock)
    c.args.table.now ending.Done (g.O.Sink.sink c.args.out.now) (g.O.Sink.sink c.loop-place.out)
    (standing (g.D.Disk.disk c.args.desk.now.disk) c.args.desk.now)
    (standing (g.D.Disk.disk c.loop-place.desk.disk) c.loop-place.desk) (returns-clause-ends g c)
