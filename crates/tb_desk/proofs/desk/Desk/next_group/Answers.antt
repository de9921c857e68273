-- The frame at a place has the group there, and what holds of the desk holds still.
use Rattle.std.proofs.Common.{◌≡◌, ℕ, List, length, map, ap, ◌∙◌}
use Rattle.tb_message.specs.declared.message.Entry.{Entry}
use Rattle.tb_journal.specs.Places.{GivesFrame}
use Rattle.tb_desk.specs.Stands.{gate_behind}
use Rattle.tb_desk.specs.Desks.{DeskView, noted}
use Rattle.tb_desk.specs.Walking.{IsBehind, GivesGroup}
use Rattle.tb_desk.proofs.DeskLemmas.{IsDesk-read}
use Rattle.tb_desk.proofs.WalkingLemmas.{GivesGroup-frame, IsBehind-all, given_more, none_more}
use Rattle.tb_desk.proofs.desk.Desk.next_group.Goals as goal

pub next_frame-requires-clause-sure : goal.next_frame-requires-clause-sure
next_frame-requires-clause-sure g c =
    let inside = c.self.inside in
    let sure = ap (λ (view : DeskView g.row.D.Denot). view.doubt) c.self.view_is ∙ c.requires.sure in
    c.self.invariant.0.stands.next_place
    ∙ ap (λ (doubt : List Entry). gate_behind inside.journal.gate doubt) sure

pub returns-clause-group : goal.returns-clause-group
returns-clause-group g c =
    let inside = c.self.inside in
    let gate : ℕ = inside.journal.gate in
    let history : List Entry = inside.host.history in
    let place : ℕ = c.args.place in
    let payload : List ℕ = c.next_frame.new.into.payload in
    rw (← c.self.view_is)
    (given_more c.next_frame.result (g.D.Disk.disk inside.journal.disk).past (GivesFrame gate place payload)
    (λ next past. (before : ℕ) → IsBehind history gate place before past
    → GivesGroup history gate before payload next past)
    c.next_frame.ensures.frame
    (λ next past gives before behind.
    GivesGroup-frame history gate place next before payload past c.self.invariant.0.stands.legal gives behind))

pub returns-clause-all : goal.returns-clause-all
returns-clause-all g c =
    let inside = c.self.inside in
    let gate : ℕ = inside.journal.gate in
    let history : List Entry = inside.host.history in
    let place : ℕ = c.args.place in
    rw (← c.self.view_is)
    (none_more c.next_frame.result (g.D.Disk.disk inside.journal.disk).past place gate
    (λ past. (before : ℕ) → IsBehind history gate place before past → before ≡ length history)
    c.next_frame.ensures.end
    (λ past reached before behind. IsBehind-all history gate place before past reached behind))

pub invariant_of-self : goal.invariant_of-self
invariant_of-self g c =
    let d = g.D.Disk.disk in
    let inside = c.self.inside in
    let new = c.next_frame.new.self in
    let same = c.next_frame.ensures.same in
    let desk =
    IsDesk-read (d inside.opened.value.disk) (d inside.journal.disk) (d new.disk) inside.journal.gate
    inside.journal.doubt inside.host.history inside.doubt.items inside.recovered inside.faults
    (map noted inside.doubted.items) c.self.invariant.0 c.next_frame.ensures.kept c.next_frame.ensures.count in
    (rw (same.0, same.2) desk, c.self.invariant.1)
