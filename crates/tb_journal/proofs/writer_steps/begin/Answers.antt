-- A journal was begun over a short file, or over a long one.
use Rattle.tb_journal.proofs.Calls.{on_ok_map, on_err_map, on_err}
use Rattle.tb_disk.specs.Past.{contents_of}
use Rattle.std.proofs.Common.{inr}
use Rattle.tb_journal.specs.Writing.{Begins, StopsUnsealed}
use Rattle.tb_journal.specs.WriterSteps.{Titles, LeavesBlank}
use Rattle.tb_journal.proofs.WritingLemmas.{begin_measuring, begin_from, blank_is_enough}
use Rattle.tb_disk.specs.Past.{Then}
use Rattle.tb_disk.specs.Steps.{Synced}
use Rattle.tb_journal.proofs.writer_steps.begin.Goals as goal

pub returns-in_err-size-clause-err : goal.returns-in_err-size-clause-err
returns-in_err-size-clause-err g c =
    let d = g.D.Disk.disk in
    on_err c.from_residual.result (begin_measuring (d c.args.disk.now) (d c.measure.new.disk)
    c.in_err-size.ensures.err)

pub returns-then-size-le-SEAL-clause-ok : goal.returns-then-size-le-SEAL-clause-ok
returns-then-size-le-SEAL-clause-ok g c =
    let d = g.D.Disk.disk in
    on_ok_map c.write_short.result (λ titles. begin_from Titles Begins c.in_ok-size.size (d c.args.disk.now)
    (d c.measure.new.disk) (d c.write_short.new.disk)
    (λ before now t. (t.0, blank_is_enough (contents_of before) (Then Synced before) now t.1))
    c.in_ok-size.ensures.ok titles) c.write_short.ensures.ok

pub returns-then-size-le-SEAL-clause-err : goal.returns-then-size-le-SEAL-clause-err
returns-then-size-le-SEAL-clause-err g c =
    let d = g.D.Disk.disk in
    on_err_map c.write_short.result (λ part. begin_from LeavesBlank StopsUnsealed c.in_ok-size.size
    (d c.args.disk.now) (d c.measure.new.disk) (d c.write_short.new.disk)
    (λ before now t. inr (blank_is_enough (contents_of before) (Then Synced before) now t))
    c.in_ok-size.ensures.ok part) c.write_short.ensures.err
