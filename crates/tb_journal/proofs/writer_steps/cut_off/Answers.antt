-- The file was cut, and synced.
use Rattle.tb_journal.proofs.Calls.{on_ok_map, on_err_map, on_err}
use Rattle.tb_journal.proofs.WritingLemmas.{cut_fails, cut_unsynced, cut_synced}
use Rattle.tb_journal.proofs.writer_steps.cut_off.Goals as goal

pub returns-in_err-cut-clause-err : goal.returns-in_err-cut-clause-err
returns-in_err-cut-clause-err g c =
    let d = g.D.Disk.disk in
    on_err c.from_residual.result (cut_fails (d c.args.disk.now) (d c.cut.new.self)
    c.in_err-cut.ensures.fails c.requires.broken)

pub returns-clause-ok : goal.returns-clause-ok
returns-clause-ok g c =
    let d = g.D.Disk.disk in
    on_ok_map c.sync.result (λ syncs. cut_synced (d c.args.disk.now) (d c.cut.new.self) (d c.sync.new.self)
    c.in_ok-cut.ensures.cuts syncs c.requires.broken) c.sync.ensures.syncs

pub returns-clause-err : goal.returns-clause-err
returns-clause-err g c =
    let d = g.D.Disk.disk in
    on_err_map c.sync.result (λ fails. cut_unsynced (d c.args.disk.now) (d c.cut.new.self) (d c.sync.new.self)
    c.in_ok-cut.ensures.cuts fails c.requires.broken) c.sync.ensures.fails
