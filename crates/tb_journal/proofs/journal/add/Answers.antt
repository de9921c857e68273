-- The four calls, two by two.
use Rattle.tb_journal.proofs.Calls.{reaches_staged, stages_counts, stages_maybe, four_steps, on_ok_map, on_err_map}
use Rattle.tb_journal.proofs.journal.add.Goals as goal

pub open_gate-requires-clause-place : goal.open_gate-requires-clause-place
open_gate-requires-clause-place g c =
    let d = g.D.Disk.disk in
    reaches_staged c.args.payload.now c.args.ordinal (d c.args.disk.now) (d c.stage.new.disk) c.args.gate
    c.requires.place
    c.in_ok-stage.ensures.steps

pub returns-clause-ok : goal.returns-clause-ok
returns-clause-ok g c =
    let d = g.D.Disk.disk in
    let p = c.args.payload.now in
    on_ok_map c.open_gate.result (λ counts. stages_counts p c.args.gate _ (d c.args.disk.now) (d c.stage.new.disk)
    (d c.open_gate.new.disk) c.in_ok-stage.ensures.ok (counts p)) c.open_gate.ensures.ok

pub returns-clause-steps : goal.returns-clause-steps
returns-clause-steps g c =
    let d = g.D.Disk.disk in
    on_ok_map c.open_gate.result (λ opened. four_steps c.args.payload.now c.args.ordinal c.args.gate (d c.args.disk.now)
    (d c.stage.new.disk) (d c.open_gate.new.disk) c.in_ok-stage.ensures.steps opened) c.open_gate.ensures.steps

pub returns-clause-err : goal.returns-clause-err
returns-clause-err g c =
    let d = g.D.Disk.disk in
    let p = c.args.payload.now in
    on_err_map c.open_gate.result (λ counts. stages_maybe p c.args.gate _ (d c.args.disk.now) (d c.stage.new.disk)
    (d c.open_gate.new.disk) c.in_ok-stage.ensures.ok (counts p)) c.open_gate.ensures.err
