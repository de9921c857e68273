-- A payload is added, or it is in doubt.
use Rattle.std.proofs.Common.{◌≡◌, ◌+◌, ◌++◌, [], ◌∷◌, ℕ, ◌<◌, Option, None, IfSome, length, ap, subst, sym, ◌∙◌, arith}
use Rattle.tb_journal.specs.Journal.{Told, Adds, Stays}
use Rattle.tb_journal.specs.Journals.{JournalView}
use Rattle.tb_journal.proofs.ToldLemmas.{Told-weaker}
use Rattle.tb_journal.proofs.Calls.{held_stays}
use Rattle.tb_journal.proofs.SinceLemmas.{Knows, knows_added, knows_doubted, reaches_behind, knows_many}
use Rattle.tb_journal.proofs.journal.Journal.append.Goals as goal

pub add-requires-clause-place : goal.add-requires-clause-place
add-requires-clause-place g c =
    let d = g.D.Disk.disk in
    let inside = c.self.inside in
    let sure : inside.doubt ≡ None = ap (λ (view : JournalView g.row.D.Denot). view.doubt) c.self.view_is
    ∙ c.requires.sure in
    let known = subst (λ (doubt : Option ℕ). Knows (d inside.opened.value) (d inside.disk) inside.gate inside.ordinal
    doubt) sure c.self.invariant.since in
    reaches_behind (d inside.opened.value) (d inside.disk) inside.gate inside.ordinal known

pub add-requires-clause-many : goal.add-requires-clause-many
add-requires-clause-many g c =
    let d = g.D.Disk.disk in
    let inside = c.self.inside in
    let sure : inside.doubt ≡ None = ap (λ (view : JournalView g.row.D.Denot). view.doubt) c.self.view_is
    ∙ c.requires.sure in
    let known = subst (λ (doubt : Option ℕ). Knows (d inside.opened.value) (d inside.disk) inside.gate inside.ordinal
    doubt) sure c.self.invariant.since in
    knows_many (d inside.opened.value) (d inside.disk) inside.gate inside.ordinal known

pub invariant_of-self : goal.invariant_of-self
invariant_of-self g c =
    let d = g.D.Disk.disk in
    let inside = c.self.inside in
    let payload = c.args.payload.now in
    let next = inside.gate + 13 + length payload in
    let sure : inside.doubt ≡ None = ap (λ (view : JournalView g.row.D.Denot). view.doubt) c.self.view_is
    ∙ c.requires.sure in
    let known = subst (λ (doubt : Option ℕ). Knows (d inside.opened.value) (d inside.disk) inside.gate inside.ordinal
    doubt) sure c.self.invariant.since in
    let added = knows_added payload inside.gate next inside.ordinal (d inside.opened.value) (d inside.disk)
    (d c.add.new.disk) known c.in-Ok.ensures.ok in
    record {
      room_enough = omega (arith, c.add.ensures.room, c.self.invariant.room_enough);
      few = omega (arith, c.self.invariant.few);
      behind = subst (λ (doubt : Option ℕ). IfSome doubt (λ after. next < after)) (sym sure) tt;
      since = subst (λ (doubt : Option ℕ). Knows (d inside.opened.value) (d c.add.new.disk) next
          (inside.ordinal + 1) doubt)
          (sym sure) added;
    }

pub invariant_of-self-in-Err : goal.invariant_of-self-in-Err
invariant_of-self-in-Err g c =
    let d = g.D.Disk.disk in
    let inside = c.self.inside in
    let payload = c.args.payload.now in
    let sure : inside.doubt ≡ None = ap (λ (view : JournalView g.row.D.Denot). view.doubt) c.self.view_is
    ∙ c.requires.sure in
    let known = subst (λ (doubt : Option ℕ). Knows (d inside.opened.value) (d inside.disk) inside.gate inside.ordinal
    doubt) sure c.self.invariant.since in
    record {
      room_enough = omega (arith, c.add.ensures.room, c.self.invariant.room_enough);
      few = c.self.invariant.few;
      behind = omega arith;
      since = knows_doubted payload inside.gate (inside.gate + 13 + length payload) inside.ordinal
          (d inside.opened.value)
          (d inside.disk) (d c.add.new.disk) known c.in-Err.ensures.err;
    }

pub returns-in-Ok-clause-stays : goal.returns-in-Ok-clause-stays
returns-in-Ok-clause-stays g c =
    let d = g.D.Disk.disk in
    let inside = c.self.inside in
    let payload = c.args.payload.now in
    let next = inside.gate + 13 + length payload in
    let Goal : JournalView g.row.D.Denot → Type 0 = λ view. Told (d view.disk) (d c.add.new.disk)
    (Stays payload view.gate) in
    subst Goal c.self.view_is
    (Told-weaker (Adds payload inside.gate next) (Stays payload inside.gate) (d inside.disk) (d c.add.new.disk)
    (λ before now adds payloads holds. held_stays (payloads ++ payload ∷ []) next now (adds payloads holds).0)
    c.in-Ok.ensures.ok)
