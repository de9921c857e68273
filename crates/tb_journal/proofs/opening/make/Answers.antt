use Rattle.std.proofs.Common.{List, ℕ, subst}
use Rattle.tb_disk.specs.Steps.{Wrote}
use Rattle.tb_disk.specs.Disks.{Takes}
use Rattle.tb_journal.proofs.Calls.{two_steps, on_ok_map, on_err_map}
use Rattle.tb_journal.proofs.OpeningLemmas.{empty_is, making_sync_fails}
use Rattle.tb_journal.specs.Opening.{empty_journal}
use Rattle.tb_journal.proofs.opening.make.Goals as goal

pub returns-clause-ok : goal.returns-clause-ok
returns-clause-ok g c =
    let d = g.D.Disk.disk in
    let writes = subst (λ (b : List ℕ). Takes (Wrote 0 b) (d c.args.disk.now) (d c.write_at.new.self)) empty_is
    c.in_ok-write_at.ensures.writes in
    on_ok_map c.sync.result (λ syncs. two_steps (Wrote 0 empty_journal) (d c.args.disk.now) (d c.write_at.new.self)
    (d c.sync.new.self) writes syncs) c.sync.ensures.syncs

pub returns-clause-err : goal.returns-clause-err
returns-clause-err g c =
    let d = g.D.Disk.disk in
    let writes = subst (λ (b : List ℕ). Takes (Wrote 0 b) (d c.args.disk.now) (d c.write_at.new.self)) empty_is
    c.in_ok-write_at.ensures.writes in
    on_err_map c.sync.result (λ fails. making_sync_fails (d c.args.disk.now) (d c.write_at.new.self)
    (d c.sync.new.self) writes fails) c.sync.ensures.fails
