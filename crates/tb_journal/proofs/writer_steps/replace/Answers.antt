-- Three steps, or a beginning of them.
use Rattle.tb_journal.proofs.Calls.{on_ok_map, on_err_map, on_err}
use Rattle.tb_journal.specs.WriterSteps.{LeavesBlank}
use Rattle.tb_journal.proofs.WritingLemmas.{unseal_then, replaced, cut_then}
use Rattle.tb_journal.proofs.writer_steps.replace.Goals as goal

pub returns-in_err-cut_off-clause-err : goal.returns-in_err-cut_off-clause-err
returns-in_err-cut_off-clause-err g c =
    let d = g.D.Disk.disk in
    on_err c.from_residual-in_err-cut_off.result (unseal_then LeavesBlank (d c.args.disk.now) (d c.unseal.new.disk)
    (d c.cut_off.new.disk) (λ between now leaves. leaves) c.in_ok-unseal.ensures.ok c.in_err-cut_off.ensures.err)

pub returns-clause-ok : goal.returns-clause-ok
returns-clause-ok g c =
    let d = g.D.Disk.disk in
    on_ok_map c.write_title.result (λ titles. replaced (d c.args.disk.now) (d c.unseal.new.disk)
    (d c.cut_off.new.disk) (d c.write_title.new.disk) c.in_ok-unseal.ensures.ok c.in_ok-cut_off.ensures.ok titles)
    c.write_title.ensures.ok

pub returns-clause-err : goal.returns-clause-err
returns-clause-err g c =
    let d = g.D.Disk.disk in
    on_err_map c.write_title.result (λ part. unseal_then LeavesBlank (d c.args.disk.now) (d c.unseal.new.disk)
    (d c.write_title.new.disk) (λ between now leaves. leaves) c.in_ok-unseal.ensures.ok
    (cut_then (d c.unseal.new.disk) (d c.cut_off.new.disk) (d c.write_title.new.disk) c.in_ok-cut_off.ensures.ok part))
    c.write_title.ensures.err
