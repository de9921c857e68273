-- The head of a frame and its payload were written, or in part.
use Rattle.tb_journal.proofs.Calls.{on_ok_map, on_err_map, on_err}
use Rattle.tb_journal.proofs.WritingLemmas.{head_fails, frame_written, frame_in_part}
use Rattle.tb_journal.proofs.writer_steps.add.Goals as goal

pub returns-in_err-write_at-clause-err : goal.returns-in_err-write_at-clause-err
returns-in_err-write_at-clause-err g c =
    let d = g.D.Disk.disk in
    on_err c.from_residual.result (head_fails c.args.place c.frame_head-head.result (d c.args.disk.now)
    (d c.write_at.new.self) c.in_err-write_at.ensures.fails)

pub returns-clause-ok : goal.returns-clause-ok
returns-clause-ok g c =
    let d = g.D.Disk.disk in
    on_ok_map c.write_at-2.result (λ wrote. frame_written c.args.place c.args.ordinal c.args.payload.now
    c.frame_head-head.result (d c.args.disk.now) (d c.write_at.new.self) (d c.write_at-2.new.self) c.requires.size
    c.frame_head-head.ensures c.in_ok-write_at.ensures.writes wrote) c.write_at-2.ensures.writes

pub returns-clause-err : goal.returns-clause-err
returns-clause-err g c =
    let d = g.D.Disk.disk in
    on_err_map c.write_at-2.result (λ fails. frame_in_part c.args.place c.args.ordinal c.args.payload.now
    c.frame_head-head.result (d c.args.disk.now) (d c.write_at.new.self) (d c.write_at-2.new.self) c.requires.size
    c.frame_head-head.ensures c.in_ok-write_at.ensures.writes fails) c.write_at-2.ensures.fails
