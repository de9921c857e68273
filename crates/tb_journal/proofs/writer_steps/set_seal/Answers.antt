-- The seal was written, or in part.
use Rattle.tb_journal.proofs.Calls.{on_ok_map, on_err_map}
use Rattle.tb_journal.proofs.WritingLemmas.{seal_set, seal_set_fails}
use Rattle.tb_journal.proofs.writer_steps.set_seal.Goals as goal

pub returns-clause-ok : goal.returns-clause-ok
returns-clause-ok g c =
    let d = g.D.Disk.disk in
    on_ok_map c.put.result (λ put. seal_set (d c.args.disk.now) (d c.put.new.disk) put) c.put.ensures.ok

pub returns-clause-err : goal.returns-clause-err
returns-clause-err g c =
    let d = g.D.Disk.disk in
    on_err_map c.put.result (λ put. seal_set_fails (d c.args.disk.now) (d c.put.new.disk) put) c.put.ensures.err
