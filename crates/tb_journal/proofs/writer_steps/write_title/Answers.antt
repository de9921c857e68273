-- The title was written, or in part.
use Rattle.std.proofs.Common.{◌≡◌, ℕ, List, subst}
use Rattle.tb_disk.specs.Past.{Then}
use Rattle.tb_disk.specs.Steps.{Wrote, Synced}
use Rattle.tb_journal.specs.Journal.{Told, WritesInPart}
use Rattle.tb_journal.proofs.Calls.{on_ok_map, on_err_map}
use Rattle.tb_journal.proofs.WritingLemmas.{title_put, title_put_fails}
use Rattle.tb_journal.proofs.writer_steps.write_title.Goals as goal

pub returns-clause-ok : goal.returns-clause-ok
returns-clause-ok g c =
    let d = g.D.Disk.disk in
    on_ok_map c.put.result (λ put. title_put (d c.args.disk.now) (d c.put.new.disk)
    (subst (λ (bytes : List ℕ). Told (d c.args.disk.now) (d c.put.new.disk)
    (λ before now. now ≡ Then Synced (Then (Wrote 0 bytes) before))) c.title.ensures put) c.requires.cut)
    c.put.ensures.ok

pub returns-clause-err : goal.returns-clause-err
returns-clause-err g c =
    let d = g.D.Disk.disk in
    on_err_map c.put.result (λ put. title_put_fails (d c.args.disk.now) (d c.put.new.disk)
    (subst (λ (bytes : List ℕ). Told (d c.args.disk.now) (d c.put.new.disk) (WritesInPart 0 bytes)) c.title.ensures put)
    c.requires.cut) c.put.ensures.err
