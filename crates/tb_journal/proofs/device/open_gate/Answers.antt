-- What was staged counts, or may count.
use Rattle.tb_journal.proofs.Calls.{second_fails, second_sync_fails, second_syncs, on_ok_map, on_err_map, on_err}
use Rattle.tb_journal.proofs.device.open_gate.Goals as goal

pub returns-in_err-write_at-clause-err : goal.returns-in_err-write_at-clause-err
returns-in_err-write_at-clause-err g c =
    let d = g.D.Disk.disk in
    on_err c.from_residual.result (λ p. second_fails p c.args.gate (d c.args.disk.now) (d c.write_at.new.self)
    c.in_err-write_at.ensures.fails)

pub returns-clause-ok : goal.returns-clause-ok
returns-clause-ok g c =
    let d = g.D.Disk.disk in
    on_ok_map c.sync.result (λ syncs p. second_syncs p c.args.gate (d c.args.disk.now) (d c.write_at.new.self)
    (d c.sync.new.self) c.in_ok-write_at.ensures.writes syncs) c.sync.ensures.syncs

pub returns-clause-err : goal.returns-clause-err
returns-clause-err g c =
    let d = g.D.Disk.disk in
    on_err_map c.sync.result (λ fails p. second_sync_fails p c.args.gate (d c.args.disk.now) (d c.write_at.new.self)
    (d c.sync.new.self) c.in_ok-write_at.ensures.writes fails) c.sync.ensures.fails
