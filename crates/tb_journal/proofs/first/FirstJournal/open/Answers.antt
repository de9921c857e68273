-- What was found, or why it was refused, is exact.
use Rattle.std.proofs.Common.{◌≡◌, ℕ, Err, sym, subst}
use Rattle.tb_disk.specs.Steps.{Synced}
use Rattle.tb_disk.specs.Past.{Past, Then, contents_of}
use Rattle.tb_journal.specs.declared.form.Form.TheVariants.{First}
use Rattle.tb_journal.specs.Journal.{SyncsOrNot}
use Rattle.tb_journal.specs.Places.{ReadsSome}
use Rattle.tb_journal.specs.Answers.{IsTrueIn}
use Rattle.tb_journal.proofs.Exactness.{exact_told, exact_at, first_place-stands}
use Rattle.tb_journal.proofs.first.FirstJournal.open.Goals as goal

-- the file was synced and read to the gate
abbrev Finds : ℕ → Past → Past → Type 0
Finds gate before now = (now ≡ Then Synced before) × ReadsSome First gate (contents_of before)

pub returns-in-Ok-clause-first : goal.returns-in-Ok-clause-first
returns-in-Ok-clause-first g c =
    let d = g.D.Disk.disk in
    let gate : ℕ = c.in-Ok.gate in
    first_place-stands First gate (Finds gate) (d c.args.disk.now) (d c.find_first.new.disk) c.in-Ok.ensures.behind
    (λ before now finds. subst (λ (past : Past). ReadsSome First gate (contents_of past)) (sym finds.0) finds.1)
    c.in-Ok.ensures.ok

pub returns-in-Ok-clause-exact : goal.returns-in-Ok-clause-exact
returns-in-Ok-clause-exact g c =
    let d = g.D.Disk.disk in
    let gate : ℕ = c.in-Ok.gate in
    exact_at First gate (Finds gate) (d c.args.disk.now) (d c.find_first.new.disk) (λ before now finds. finds.1)
    c.in-Ok.ensures.ok

pub returns-in-Err-clause-exact_refusal : goal.returns-in-Err-clause-exact_refusal
returns-in-Err-clause-exact_refusal g c =
    let d = g.D.Disk.disk in
    exact_told First (Err c.in-Err.fault)
    (λ before now. SyncsOrNot before now × IsTrueIn First (contents_of before) (Err c.in-Err.fault))
    (d c.args.disk.now) (d c.find_first.new.disk) (λ before now refuses. refuses.1) c.in-Err.ensures.err
