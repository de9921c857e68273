-- So many frames stand before the gate.
use Rattle.std.proofs.Common.{◌≡◌, ℕ, Option, None, IfSome, ap, subst, ◌∙◌}
use Rattle.tb_journal.specs.Journal.{HoldsSoMany}
use Rattle.tb_journal.specs.Journals.{JournalView}
use Rattle.tb_journal.proofs.SinceLemmas.{Knows, knows_many}
use Rattle.tb_journal.proofs.journal.Journal.read_behind.Goals as goal

pub returns-clause-many : goal.returns-clause-many
returns-clause-many g c =
    let d = g.D.Disk.disk in
    let inside = c.self.inside in
    let sure : inside.doubt ≡ None = ap (λ (view : JournalView g.row.D.Denot). view.doubt) c.self.view_is
    ∙ c.requires.sure in
    let known = subst (λ (doubt : Option ℕ). Knows (d inside.opened.value) (d inside.disk) inside.gate inside.ordinal
    doubt) sure c.self.invariant.since in
    let Goal : JournalView g.row.D.Denot → Type 0 = λ view. IfSome (d view.disk).past
    (HoldsSoMany view.gate view.ordinal) in
    subst Goal c.self.view_is (knows_many (d inside.opened.value) (d inside.disk) inside.gate inside.ordinal known)
