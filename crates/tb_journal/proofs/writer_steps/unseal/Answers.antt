-- The seal was read, and broken where it stood.
use Rattle.tb_journal.proofs.Calls.{on_ok_map, on_err_map, on_err}
use Rattle.tb_journal.specs.WriterSteps.{LeavesOldOrBlank, IsLong}
use Rattle.tb_journal.proofs.WritingImages.{unsealed_start}
use Rattle.tb_journal.proofs.WritingLemmas.{told_same, no_seal, seal_put, seal_put_fails}
use Rattle.tb_journal.proofs.writer_steps.unseal.Goals as goal

pub returns-in_err-_count-clause-err : goal.returns-in_err-_count-clause-err
returns-in_err-_count-clause-err g c =
    let d = g.D.Disk.disk in
    on_err c.from_residual.result (told_same LeavesOldOrBlank IsLong (d c.args.disk.now) (d c.read.new.self)
    c.in_err-_count.ensures.fails.past (λ past long. unsealed_start past long) c.requires.long)

pub returns-then-byte-ne-SEALED-clause-ok : goal.returns-then-byte-ne-SEALED-clause-ok
returns-then-byte-ne-SEALED-clause-ok g c =
    let d = g.D.Disk.disk in
    no_seal (d c.args.disk.now) (d c.read.new.self) c.read.new.into c.in_ok-_count._count
    c.in_ok-_count.ensures.gives c.in_ok-_count.ensures.same.past c.if-byte-ne-SEALED.true c.requires.long

pub returns-clause-ok : goal.returns-clause-ok
returns-clause-ok g c =
    let d = g.D.Disk.disk in
    on_ok_map c.put.result (λ put. seal_put (d c.args.disk.now) (d c.read.new.self) (d c.put.new.disk)
    c.read.new.into c.in_ok-_count._count c.in_ok-_count.ensures.gives c.in_ok-_count.ensures.same.past
    c.if-byte-ne-SEALED.false c.requires.long put) c.put.ensures.ok

pub returns-clause-err : goal.returns-clause-err
returns-clause-err g c =
    let d = g.D.Disk.disk in
    on_err_map c.put.result (λ put. seal_put_fails (d c.args.disk.now) (d c.read.new.self) (d c.put.new.disk)
    c.read.new.into c.in_ok-_count._count c.in_ok-_count.ensures.gives c.in_ok-_count.ensures.same.past
    c.if-byte-ne-SEALED.false c.requires.long put) c.put.ensures.err
