-- The gate was written, or in part.
use Rattle.tb_journal.proofs.Calls.{on_ok_map, on_err_map}
use Rattle.tb_journal.proofs.WritingLemmas.{gate_put, gate_put_fails, closed_long}
use Rattle.tb_journal.proofs.writer_steps.close.Goals as goal

pub returns-clause-ok : goal.returns-clause-ok
returns-clause-ok g c =
    let d = g.D.Disk.disk in
    on_ok_map c.put.result (λ put. gate_put c.args.place (d c.args.disk.now) (d c.put.new.disk) put) c.put.ensures.ok

pub returns-clause-err : goal.returns-clause-err
returns-clause-err g c =
    let d = g.D.Disk.disk in
    on_err_map c.put.result (λ put. gate_put_fails c.args.place (d c.args.disk.now) (d c.put.new.disk) put)
    c.put.ensures.err

pub returns-clause-long : goal.returns-clause-long
returns-clause-long g c =
    let d = g.D.Disk.disk in
    on_ok_map c.put.result (λ put written. closed_long c.args.place (d c.args.disk.now) (d c.put.new.disk) put written)
    c.put.ensures.ok
