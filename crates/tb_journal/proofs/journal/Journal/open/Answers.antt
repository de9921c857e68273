-- The journal that was found, or why there is none.
use Rattle.std.proofs.Common.{Err}
use Rattle.tb_journal.specs.declared.form.Form.TheVariants.{Second}
use Rattle.tb_journal.proofs.OpeningLemmas.{FindsThem, Refuses, found_reads, found_reads_now}
use Rattle.tb_journal.proofs.Exactness.{exact_told, exact_at, first_place-stands}
use Rattle.tb_journal.proofs.SinceLemmas.{knows_opened}
use Rattle.tb_journal.proofs.journal.Journal.open.Goals as goal

pub opened-requires-clause-since : goal.opened-requires-clause-since
opened-requires-clause-since g c =
    let d = g.D.Disk.disk in
    let gate = c.in-Ok.gate in
    let ordinal = c.in-Ok.ordinal in
    knows_opened (FindsThem gate ordinal) gate ordinal (d c.args.disk) (d c.find.new.disk)
    (λ before now finds. (finds.0, finds.1)) c.in-Ok.ensures.ok

pub returns-in-Ok-with_capacity-clause-first : goal.returns-in-Ok-with_capacity-clause-first
returns-in-Ok-with_capacity-clause-first g c =
    let d = g.D.Disk.disk in
    let gate = c.in-Ok.gate in
    rw c.opened.ensures (first_place-stands Second gate (FindsThem gate c.in-Ok.ordinal) (d c.args.disk)
    (d c.find.new.disk) c.in-Ok.ensures.behind.0 (λ before now finds. found_reads_now gate before now finds.0)
    c.in-Ok.ensures.ok)

pub returns-in-Ok-with_capacity-clause-exact : goal.returns-in-Ok-with_capacity-clause-exact
returns-in-Ok-with_capacity-clause-exact g c =
    let d = g.D.Disk.disk in
    let gate = c.in-Ok.gate in
    rw c.opened.ensures (exact_at Second gate (FindsThem gate c.in-Ok.ordinal) (d c.args.disk) (d c.find.new.disk)
    (λ before now finds. found_reads gate before now finds.0) c.in-Ok.ensures.ok)

pub returns-in-Err-clause-exact_refusal : goal.returns-in-Err-clause-exact_refusal
returns-in-Err-clause-exact_refusal g c =
    let d = g.D.Disk.disk in
    exact_told Second (Err c.in-Err.fault) (Refuses c.in-Err.fault) (d c.args.disk) (d c.find.new.disk)
    (λ before now refuses. refuses.0) c.in-Err.ensures.err
