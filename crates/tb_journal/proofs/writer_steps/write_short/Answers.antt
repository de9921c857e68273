-- A short file was begun, or the title written, or in part.
use Rattle.tb_journal.proofs.Calls.{on_ok_map, on_err_map}
use Rattle.tb_journal.proofs.WritingLemmas.{short_put, short_put_fails}
use Rattle.tb_journal.proofs.writer_steps.write_short.Goals as goal

pub returns-clause-ok : goal.returns-clause-ok
unfolding Rattle.tb_journal.specs.Frames.title_of
returns-clause-ok g c =
    let d = g.D.Disk.disk in
    on_ok_map c.put.result (λ put. short_put (d c.args.disk.now) (d c.put.new.disk) put c.requires.short)
    c.put.ensures.ok

pub returns-clause-err : goal.returns-clause-err
unfolding Rattle.tb_journal.specs.Frames.title_of
returns-clause-err g c =
    let d = g.D.Disk.disk in
    on_err_map c.put.result (λ put. short_put_fails (d c.args.disk.now) (d c.put.new.disk) put c.requires.short)
    c.put.ensures.err
