-- What is in doubt is settled, or it is in doubt still.
use Rattle.std.proofs.Common.{◌≡◌, ◌↔◌, ◌<◌, ℕ, arith, Option, Some, IfSome, IsTrue, Bool, true, slice_index, ap, subst, sym, ◌∙◌}
use Rattle.tb_disk.specs.Past.{contents_of}
use Rattle.tb_journal.specs.Journal.{Told, Settles, LeavesInDoubt}
use Rattle.tb_journal.specs.Journals.{JournalView}
use Rattle.tb_journal.proofs.SinceLemmas.{Knows, Looks, knows_counts, knows_counts_not, knows_still, settles, byte_known, leaves_looked, leaves_still}
use Rattle.tb_journal.proofs.journal.Journal.resolve.Goals as goal

-- there is one place behind the payload in doubt
same_next : {first second : ℕ} → Some first ≡ Some second → first ≡ second
same_next is = cc

pub invariant_of-self : goal.invariant_of-self
invariant_of-self g c =
    let d = g.D.Disk.disk in
    let inside = c.self.inside in
    let next : ℕ = c.unwrap-next.result in
    let later : inside.gate < next = subst (λ (doubt : Option ℕ). IfSome doubt (λ after. inside.gate < after))
    c.unwrap-next.ensures c.self.invariant.behind in
    let known = subst (λ (doubt : Option ℕ). Knows (d inside.opened.value) (d inside.disk) inside.gate inside.ordinal
    doubt)
    c.unwrap-next.ensures c.self.invariant.since in
    let looks = subst (λ (counts : Bool). Told (d inside.disk) (d c.gate_is_open.new.disk) (Looks inside.gate counts))
    c.in-Ok-true.field-0-test c.in-Ok-true.ensures.ok in
    record {
      room_enough = c.self.invariant.room_enough;
      few = omega (arith, c.self.invariant.few, later);
      behind = tt;
      since = knows_counts inside.gate next inside.ordinal (d inside.opened.value) (d inside.disk)
          (d c.gate_is_open.new.disk) known looks;
    }

pub invariant_of-self-in-Ok-false : goal.invariant_of-self-in-Ok-false
invariant_of-self-in-Ok-false g c =
    let d = g.D.Disk.disk in
    let inside = c.self.inside in
    let next = c.unwrap-next.result in
    let known = subst (λ (doubt : Option ℕ). Knows (d inside.opened.value) (d inside.disk) inside.gate inside.ordinal
    doubt)
    c.unwrap-next.ensures c.self.invariant.since in
    let looks = subst (λ (counts : Bool). Told (d inside.disk) (d c.gate_is_open.new.disk) (Looks inside.gate counts))
    c.in-Ok-false.field-0-test c.in-Ok-false.ensures.ok in
    record {
      room_enough = c.self.invariant.room_enough;
      few = c.self.invariant.few;
      behind = tt;
      since = knows_counts_not inside.gate next inside.ordinal (d inside.opened.value) (d inside.disk)
          (d c.gate_is_open.new.disk) known looks;
    }

pub invariant_of-self-in-Err : goal.invariant_of-self-in-Err
invariant_of-self-in-Err g c =
    let d = g.D.Disk.disk in
    let inside = c.self.inside in
    let next = c.unwrap-next.result in
    let known = subst (λ (doubt : Option ℕ). Knows (d inside.opened.value) (d inside.disk) inside.gate inside.ordinal
    doubt)
    c.unwrap-next.ensures c.self.invariant.since in
    let still = knows_still inside.gate next inside.ordinal (d inside.opened.value) (d inside.disk)
    (d c.gate_is_open.new.disk) known c.in-Err.ensures.err in
    record {
      room_enough = c.self.invariant.room_enough;
      few = c.self.invariant.few;
      behind = c.self.invariant.behind;
      since = subst (λ (doubt : Option ℕ). Knows (d inside.opened.value) (d c.gate_is_open.new.disk) inside.gate
          inside.ordinal doubt)
          (sym c.unwrap-next.ensures) still;
    }

pub returns-in-Ok-true-clause-settles : goal.returns-in-Ok-true-clause-settles
returns-in-Ok-true-clause-settles g c next doubt =
    let d = g.D.Disk.disk in
    let inside = c.self.inside in
    let here = c.unwrap-next.result in
    let looks = subst (λ (counts : Bool). Told (d inside.disk) (d c.gate_is_open.new.disk) (Looks inside.gate counts))
    c.in-Ok-true.field-0-test c.in-Ok-true.ensures.ok in
    let same : here ≡ next = same_next (sym c.unwrap-next.ensures
    ∙ (ap (λ (view : JournalView g.row.D.Denot). view.doubt) c.self.view_is ∙ doubt)) in
    let Goal : JournalView g.row.D.Denot → Type 0 = λ view. Told (d view.disk) (d c.gate_is_open.new.disk)
    (Settles view.gate next here true) in
    subst Goal c.self.view_is
    (subst (λ (n : ℕ). Told (d inside.disk) (d c.gate_is_open.new.disk) (Settles inside.gate n here true)) same
    (settles inside.gate here true (d inside.disk) (d c.gate_is_open.new.disk) looks))

pub returns-in-Ok-true-clause-byte : goal.returns-in-Ok-true-clause-byte
returns-in-Ok-true-clause-byte g c =
    let d = g.D.Disk.disk in
    let inside = c.self.inside in
    let next = c.unwrap-next.result in
    let known = subst (λ (doubt : Option ℕ). Knows (d inside.opened.value) (d inside.disk) inside.gate inside.ordinal
    doubt)
    c.unwrap-next.ensures c.self.invariant.since in
    let looks = subst (λ (counts : Bool). Told (d inside.disk) (d c.gate_is_open.new.disk) (Looks inside.gate counts))
    c.in-Ok-true.field-0-test c.in-Ok-true.ensures.ok in
    let Goal : JournalView g.row.D.Denot → Type 0 = λ view. IfSome (d view.disk).past
    (λ past. IsTrue true ↔ (slice_index (contents_of past) view.gate ≡ 1)) in
    subst Goal c.self.view_is (byte_known inside.gate next inside.ordinal true (d inside.opened.value) (d inside.disk)
    (d c.gate_is_open.new.disk) known looks)

pub returns-in-Ok-true-clause-crash : goal.returns-in-Ok-true-clause-crash
returns-in-Ok-true-clause-crash g c next doubt =
    let d = g.D.Disk.disk in
    let inside = c.self.inside in
    let Goal : JournalView g.row.D.Denot → Type 0 = λ view. Told (d view.disk) (d c.gate_is_open.new.disk)
    (LeavesInDoubt view.gate next) in
    subst Goal c.self.view_is (leaves_looked inside.gate next c.in-Ok-true.field-0 (d inside.disk)
    (d c.gate_is_open.new.disk) c.in-Ok-true.ensures.ok)

pub returns-in-Ok-false-clause-crash : goal.returns-in-Ok-false-clause-crash
returns-in-Ok-false-clause-crash g c next doubt =
    let d = g.D.Disk.disk in
    let inside = c.self.inside in
    let Goal : JournalView g.row.D.Denot → Type 0 = λ view. Told (d view.disk) (d c.gate_is_open.new.disk)
    (LeavesInDoubt view.gate next) in
    subst Goal c.self.view_is (leaves_looked inside.gate next c.in-Ok-false.field-0 (d inside.disk)
    (d c.gate_is_open.new.disk) c.in-Ok-false.ensures.ok)

pub returns-in-Err-clause-crash : goal.returns-in-Err-clause-crash
returns-in-Err-clause-crash g c next doubt =
    let d = g.D.Disk.disk in
    let inside = c.self.inside in
    let Goal : JournalView g.row.D.Denot → Type 0 = λ view. Told (d view.disk) (d c.gate_is_open.new.disk)
    (LeavesInDoubt view.gate next) in
    subst Goal c.self.view_is (leaves_still inside.gate next (d inside.disk)
    (d c.gate_is_open.new.disk) c.in-Err.ensures.err)
