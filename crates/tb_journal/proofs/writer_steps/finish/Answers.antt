-- The frames were closed and seals_then, or in part.
use Rattle.tb_journal.proofs.Calls.{on_ok_map, on_err_map, on_err}
use Rattle.tb_journal.proofs.WritingLemmas.{seals_then, sealed_in_part, closed_in_part}
use Rattle.tb_journal.proofs.writer_steps.finish.Goals as goal

pub returns-in_err-close-clause-err : goal.returns-in_err-close-clause-err
returns-in_err-close-clause-err g c =
    let d = g.D.Disk.disk in
    on_err c.from_residual.result (closed_in_part c.args.place (d c.args.disk.now) (d c.close.new.disk)
    c.in_err-close.ensures.err)

pub returns-clause-ok : goal.returns-clause-ok
returns-clause-ok g c =
    let d = g.D.Disk.disk in
    on_ok_map c.set_seal.result (λ sets. seals_then c.args.place (d c.args.disk.now) (d c.close.new.disk)
    (d c.set_seal.new.disk) c.in_ok-close.ensures.ok sets) c.set_seal.ensures.ok

pub returns-clause-err : goal.returns-clause-err
returns-clause-err g c =
    let d = g.D.Disk.disk in
    on_err_map c.set_seal.result (λ sets. sealed_in_part c.args.place (d c.args.disk.now) (d c.close.new.disk)
    (d c.set_seal.new.disk) c.in_ok-close.ensures.ok sets) c.set_seal.ensures.err
