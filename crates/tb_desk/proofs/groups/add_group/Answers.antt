-- A group is added, or it is in doubt.
use Rattle.std.proofs.Common.{◌≡◌, ◌+◌, ◌++◌, [], ℕ, List, Option, length, ap, sym, ◌∙◌, subst, arith}
use Rattle.tb_message.specs.Spelling.{spellings}
use Rattle.tb_journal.specs.Journal.{Told, Adds, LeavesOldOrNew}
use Rattle.tb_desk.specs.Stands.{Stands}
use Rattle.tb_desk.proofs.GroupLemmas.{spellings-sizes, on_ok_both}
use Rattle.tb_desk.proofs.StepLemmas.{Stands-added, crash-added}
use Rattle.tb_desk.proofs.groups.add_group.Goals as goal

pub append-requires-clause-size : goal.append-requires-clause-size
append-requires-clause-size g c =
    let bytes = c.deref.ensures.value ∙ c.spell.ensures.bytes in
    let sizes = spellings-sizes c.args.group.now c.requires.in_range in
    record {
      some = omega (arith, ap length bytes, sizes.0, c.requires.some);
      short = omega (arith, ap length bytes, sizes.1, c.requires.few);
    }

pub append-requires-clause-end : goal.append-requires-clause-end
append-requires-clause-end g c =
    let bytes = c.deref.ensures.value ∙ c.spell.ensures.bytes in
    let sizes = spellings-sizes c.args.group.now c.requires.in_range in
    omega (arith, ap length bytes, sizes.1, c.requires.few, c.requires.end)

pub returns-clause-added : goal.returns-clause-added
returns-clause-added g c =
    let d = g.D.Disk.disk in
    let old = c.args.journal.now in
    let new = c.append.new.self in
    let group = c.args.group.now in
    let bytes = c.deref.ensures.value ∙ c.spell.ensures.bytes in
    on_ok_both c.append.result _ _ _ c.append.ensures.adds c.append.ensures.sure
    (λ adds sure history stands legal.
    (let here : new.gate ≡ old.gate + 13 + length (spellings group) =
    sure.1 ∙ ap (λ (payload : List ℕ). old.gate + 13 + length payload) bytes in
    let told : Told (d old.disk) (d new.disk) (Adds (spellings group) old.gate
    (old.gate + 13 + length (spellings group))) =
    subst (λ (gate : ℕ). Told (d old.disk) (d new.disk) (Adds (spellings group) old.gate gate)) here
    (subst (λ (payload : List ℕ). Told (d old.disk) (d new.disk) (Adds payload old.gate new.gate)) bytes adds) in
    subst (λ (gate : ℕ). Stands (d new.disk) gate new.doubt (history ++ group) []) (sym here)
    (subst (λ (next : Option ℕ). Stands (d new.disk) (old.gate + 13 + length (spellings group)) next (history ++ group)
    [])
    (sym sure.0)
    (Stands-added (d old.disk) (d new.disk) old.gate old.doubt history group stands c.requires.some legal told))))

pub returns-clause-crash : goal.returns-clause-crash
returns-clause-crash g c history stands =
    let d = g.D.Disk.disk in
    let old = c.args.journal.now in
    let new = c.append.new.self in
    let bytes = c.deref.ensures.value ∙ c.spell.ensures.bytes in
    crash-added (d old.disk) (d new.disk) old.gate old.doubt history c.args.group.now stands
    (subst (λ (payload : List ℕ). Told (d old.disk) (d new.disk) (LeavesOldOrNew payload old.gate)) bytes
    c.append.ensures.crash)
