-- The frame is behind the gate, or a part of it.
use Rattle.std.proofs.Common.{◌+◌, List, ℕ, length, ap, subst, ◌∙◌, arith, [], ◌∷◌, ◌++◌, length-append}
use Rattle.tb_disk.specs.Steps.{Wrote}
use Rattle.tb_disk.specs.Disks.{Takes, FailsToWrite}
use Rattle.tb_journal.specs.declared.form.Form.TheVariants.{Second}
use Rattle.tb_journal.specs.Frames.{framed}
use Rattle.tb_journal.proofs.Spelling.{length-framed}
use Rattle.tb_journal.proofs.Calls.{first_fails, first_sync_fails, first_syncs, two_steps, on_ok_map, on_err_map, on_err}
use Rattle.tb_journal.proofs.device.stage.Goals as goal

pub write_at-requires-clause-end : goal.write_at-requires-clause-end
write_at-requires-clause-end g c =
    omega (
      arith,
      ap length (c.deref.ensures.value ∙ c.spell.ensures.bytes),
      length-append (framed c.args.ordinal c.args.payload.now) (0 ∷ []),
      length-framed Second c.args.ordinal c.args.payload.now,
      c.requires.end,
    )

pub returns-in_err-write_at-clause-err : goal.returns-in_err-write_at-clause-err
returns-in_err-write_at-clause-err g c =
    let d = g.D.Disk.disk in
    let block : List ℕ = framed c.args.ordinal c.args.payload.now ++ 0 ∷ [] in
    let fails = subst (λ (b : List ℕ). FailsToWrite (c.args.gate + 1) (length b) (d c.args.disk.now)
    (d c.write_at.new.self)) (c.deref.ensures.value ∙ c.spell.ensures.bytes) c.in_err-write_at.ensures.fails in
    on_err c.from_residual.result (first_fails c.args.payload.now block c.args.gate (d c.args.disk.now)
    (d c.write_at.new.self) c.requires.size fails)

pub returns-clause-ok : goal.returns-clause-ok
returns-clause-ok g c =
    let d = g.D.Disk.disk in
    let writes = subst (λ (b : List ℕ). Takes (Wrote (c.args.gate + 1) b) (d c.args.disk.now) (d c.write_at.new.self))
    (c.deref.ensures.value ∙ c.spell.ensures.bytes) c.in_ok-write_at.ensures.writes in
    on_ok_map c.sync.result (λ syncs. first_syncs c.args.payload.now c.args.gate c.args.ordinal (d c.args.disk.now)
    (d c.write_at.new.self) (d c.sync.new.self) c.requires.size c.requires.many writes syncs) c.sync.ensures.syncs

pub returns-clause-steps : goal.returns-clause-steps
returns-clause-steps g c =
    let d = g.D.Disk.disk in
    let writes = subst (λ (b : List ℕ). Takes (Wrote (c.args.gate + 1) b) (d c.args.disk.now) (d c.write_at.new.self))
    (c.deref.ensures.value ∙ c.spell.ensures.bytes) c.in_ok-write_at.ensures.writes in
    on_ok_map c.sync.result (λ syncs. two_steps (Wrote (c.args.gate + 1) _) (d c.args.disk.now) (d c.write_at.new.self)
    (d c.sync.new.self) writes syncs) c.sync.ensures.syncs

pub returns-clause-err : goal.returns-clause-err
returns-clause-err g c =
    let d = g.D.Disk.disk in
    let block : List ℕ = framed c.args.ordinal c.args.payload.now ++ 0 ∷ [] in
    let writes = subst (λ (b : List ℕ). Takes (Wrote (c.args.gate + 1) b) (d c.args.disk.now) (d c.write_at.new.self))
    (c.deref.ensures.value ∙ c.spell.ensures.bytes) c.in_ok-write_at.ensures.writes in
    on_err_map c.sync.result (λ fails. first_sync_fails c.args.payload.now block c.args.gate (d c.args.disk.now)
    (d c.write_at.new.self) (d c.sync.new.self) c.requires.size writes fails) c.sync.ensures.fails
