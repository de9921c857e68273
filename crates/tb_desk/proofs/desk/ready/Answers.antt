-- The desk stands on the history that was replayed, and the gate is where it was.
use Rattle.std.proofs.Common.{ℕ, [], Option, None, sym, subst, ◌∙◌}
use Rattle.tb_desk.specs.Stands.{Stands}
use Rattle.tb_desk.proofs.ExactLemmas.{Stands-opened}
use Rattle.tb_desk.proofs.desk.ready.Goals as goal

pub opened-requires-clause-stands : goal.opened-requires-clause-stands
opened-requires-clause-stands g c =
    let d = g.D.Disk.disk in
    let journal = c.args.journal in
    let now = c.replay.new.journal in
    let history = c.in-Ok-replay.host.history in
    let replayed = c.in-Ok-replay.ensures in
    let stands : Stands (d now.disk) journal.gate None history [] =
    Stands-opened journal.gate history c.requires.finds.0 (d journal.disk) (d now.disk) replayed.kept c.requires.finds.1
    replayed.found in
    subst (λ (gate : ℕ). Stands (d now.disk) gate now.doubt history []) (sym replayed.same.0)
    (subst (λ (next : Option ℕ). Stands (d now.disk) journal.gate next history [])
    (sym (replayed.same.1 ∙ c.requires.sure)) stands)
