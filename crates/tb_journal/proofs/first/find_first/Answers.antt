-- A file of at most 17 bytes stands for no payload.
use Rattle.std.proofs.Common.{◌≡◌, ℕ, sym, subst, arith}
use Rattle.tb_disk.specs.Steps.{Synced}
use Rattle.tb_disk.specs.Past.{Past, Then, contents_of}
use Rattle.tb_journal.specs.declared.form.Form.TheVariants.{First}
use Rattle.tb_journal.specs.Opening.{Measures}
use Rattle.tb_journal.specs.Places.{ReadsSome}
use Rattle.tb_journal.proofs.Reading.{reads_empty}
use Rattle.tb_journal.proofs.ToldLemmas.{Told-weaker}
use Rattle.tb_journal.proofs.first.find_first.Goals as goal

pub returns-then-size-le-EMPTY-clause-ok : goal.returns-then-size-le-EMPTY-clause-ok
returns-then-size-le-EMPTY-clause-ok g c =
    let d = g.D.Disk.disk in
    let size : ℕ = c.in_ok-size.size in
    let Finds : ℕ → Past → Past → Type 0 =
    λ gate before now. (now ≡ Then Synced before) × ReadsSome First gate (contents_of before) in
    Told-weaker (Measures size) (Finds c.first_gate.result) (d c.args.disk.now) (d c.measure.new.disk)
    (λ before now measures. (
      measures.0,
      subst (λ (gate : ℕ). ReadsSome First gate (contents_of before)) (sym c.first_gate.ensures)
          (reads_empty First (contents_of before) (omega (arith, measures.1, c.if-size-le-EMPTY.true))),
    )) c.in_ok-size.ensures.ok
