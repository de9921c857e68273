-- The group in doubt counts, is dropped, or stays in doubt.
use Rattle.std.proofs.Common.{◌≡◌, ◌+◌, ◌++◌, ℕ, List, [], Option, None, Bool, true, false, cond, length, ap, sym, ◌∙◌, subst}
use Rattle.tb_message.specs.declared.message.Entry.{Entry}
use Rattle.tb_message.specs.Spelling.{spellings}
use Rattle.tb_core.specs.Rooms.{Fits}
use Rattle.tb_journal.specs.Journal.{Told, Settles}
use Rattle.tb_desk.specs.Stands.{Stands, IsGroup}
use Rattle.tb_desk.specs.Turn.{messages_of, Resolves}
use Rattle.tb_desk.proofs.StepLemmas.{crash-none, next_is, Stands-still, Stands-counts, Stands-dropped, crash-settled, Resolves-counts, Resolves-drops, Resolves-none, fits-behind}
use Rattle.tb_desk.proofs.steps.settle.Goals as goal

pub returns-then-is_empty-clause-sure : goal.returns-then-is_empty-clause-sure
returns-then-is_empty-clause-sure g c = sym c.as_slice.ensures.value ∙ c.is_empty.ensures.none c.if-is_empty.true

pub returns-then-is_empty-clause-resolves : goal.returns-then-is_empty-clause-resolves
returns-then-is_empty-clause-resolves g c =
    let d = g.D.Disk.disk in
    Resolves-none c.args.journal.now.gate (d c.args.journal.now.disk) c.args.host.now.history c.args.doubt.now.items
    (sym c.as_slice.ensures.value ∙ c.is_empty.ensures.none c.if-is_empty.true)

pub returns-then-is_empty-clause-room : goal.returns-then-is_empty-clause-room
returns-then-is_empty-clause-room g c others fits =
    let none : c.args.doubt.now.items ≡ [] = sym c.as_slice.ensures.value
    ∙ c.is_empty.ensures.none c.if-is_empty.true in
    subst (λ (entries : List Entry). Fits c.args.host.now.room (messages_of entries ++ others)) none fits

pub returns-then-is_empty-clause-crash : goal.returns-then-is_empty-clause-crash
returns-then-is_empty-clause-crash g c =
    let d = g.D.Disk.disk in
    let old = c.args.journal.now in
    let none : c.args.doubt.now.items ≡ [] = sym c.as_slice.ensures.value
    ∙ c.is_empty.ensures.none c.if-is_empty.true in
    crash-none (d old.disk) old.gate old.doubt c.args.host.now.history c.args.doubt.now.items
    (subst (λ (entries : List Entry). Stands (d old.disk) old.gate old.doubt c.args.host.now.history entries) none
    c.requires.stands)

pub returns-in-Err-clause-stands : goal.returns-in-Err-clause-stands
returns-in-Err-clause-stands g c =
    let d = g.D.Disk.disk in
    let old = c.args.journal.now in
    let new = c.resolve.new.self in
    let doubt = c.args.doubt.now.items in
    let some : IsGroup doubt = subst (λ (entries : List Entry). IsGroup entries) c.as_slice.ensures.value
    (c.is_empty.ensures.some c.if-is_empty.false) in
    let history = c.args.host.now.history in
    let is = next_is (d old.disk) (d new.disk) old.gate old.doubt history doubt some c.requires.stands in
    subst (λ (gate : ℕ). Stands (d new.disk) gate new.doubt history doubt) (sym c.in-Err.ensures.unsure.1)
    (subst (λ (next : Option ℕ). Stands (d new.disk) old.gate next history doubt) (sym c.in-Err.ensures.unsure.0)
    (Stands-still (d old.disk) (d new.disk) old.gate old.doubt history doubt some c.requires.stands
    (c.in-Err.ensures.doubts (old.gate + 13 + length (spellings doubt)) is)))

pub returns-in-Err-clause-unsure : goal.returns-in-Err-clause-unsure
returns-in-Err-clause-unsure g c =
    subst (λ (entries : List Entry). IsGroup entries) c.as_slice.ensures.value
    (c.is_empty.ensures.some c.if-is_empty.false)

pub returns-in-Err-clause-crash : goal.returns-in-Err-clause-crash
returns-in-Err-clause-crash g c =
    let d = g.D.Disk.disk in
    let old = c.args.journal.now in
    let new = c.resolve.new.self in
    let doubt = c.args.doubt.now.items in
    let some : IsGroup doubt = subst (λ (entries : List Entry). IsGroup entries) c.as_slice.ensures.value
    (c.is_empty.ensures.some c.if-is_empty.false) in
    let history = c.args.host.now.history in
    let is = next_is (d old.disk) (d new.disk) old.gate old.doubt history doubt some c.requires.stands in
    crash-settled (d old.disk) (d new.disk) old.gate old.doubt history doubt some c.requires.stands
    (c.in-Err.ensures.crash (old.gate + 13 + length (spellings doubt)) is)

pub apply_all-requires-clause-legal : goal.apply_all-requires-clause-legal
apply_all-requires-clause-legal g c = rw (c.as_slice-in-Ok-true.ensures.value) c.requires.stands.accepted

pub apply_all-requires-clause-fits : goal.apply_all-requires-clause-fits
apply_all-requires-clause-fits g c = rw (c.as_slice-in-Ok-true.ensures.value) c.requires.room

pub returns-in-Ok-true-clause-stands : goal.returns-in-Ok-true-clause-stands
returns-in-Ok-true-clause-stands g c =
    let d = g.D.Disk.disk in
    let old = c.args.journal.now in
    let new = c.resolve.new.self in
    let doubt = c.args.doubt.now.items in
    let some : IsGroup doubt = subst (λ (entries : List Entry). IsGroup entries) c.as_slice.ensures.value
    (c.is_empty.ensures.some c.if-is_empty.false) in
    let history = c.args.host.now.history in
    let n : ℕ = old.gate + 13 + length (spellings doubt) in
    let is = next_is (d old.disk) (d new.disk) old.gate old.doubt history doubt some c.requires.stands in
    let moves : new.gate ≡ n = c.in-Ok-true.ensures.sure.1 n is
    ∙ ap (λ (b : Bool). cond b n old.gate) c.in-Ok-true.field-0-test in
    let settled : Told (d old.disk) (d new.disk) (Settles old.gate n n true) =
    subst (λ (here : ℕ). Told (d old.disk) (d new.disk) (Settles old.gate n here true)) moves
    (subst (λ (b : Bool). Told (d old.disk) (d new.disk) (Settles old.gate n new.gate b)) c.in-Ok-true.field-0-test
    (c.in-Ok-true.ensures.settles n is)) in
    let grown : c.apply_all.new.host.history ≡ history ++ doubt =
    c.apply_all.ensures.history ∙ ap (λ (entries : List Entry). history ++ entries)
    c.as_slice-in-Ok-true.ensures.value in
    subst (λ (entries : List Entry). Stands (d new.disk) new.gate new.doubt c.apply_all.new.host.history entries)
    (sym c.clear.ensures.items)
    (subst (λ (entries : List Entry). Stands (d new.disk) new.gate new.doubt entries []) (sym grown)
    (subst (λ (next : Option ℕ). Stands (d new.disk) new.gate next (history ++ doubt) [])
    (sym c.in-Ok-true.ensures.sure.0)
    (subst (λ (gate : ℕ). Stands (d new.disk) gate None (history ++ doubt) []) (sym moves)
    (Stands-counts (d old.disk) (d new.disk) old.gate old.doubt history doubt some c.requires.stands settled))))

pub returns-in-Ok-true-clause-resolves : goal.returns-in-Ok-true-clause-resolves
returns-in-Ok-true-clause-resolves g c =
    let d = g.D.Disk.disk in
    let old = c.args.journal.now in
    let doubt = c.args.doubt.now.items in
    let history = c.args.host.now.history in
    let grown : c.apply_all.new.host.history ≡ history ++ doubt =
    c.apply_all.ensures.history ∙ ap (λ (entries : List Entry). history ++ entries)
    c.as_slice-in-Ok-true.ensures.value in
    subst (λ (entries : List Entry). Resolves old.gate (d old.disk) (record { history = history; doubt = doubt })
    entries) (sym grown)
    (Resolves-counts old.gate (d old.disk) history doubt c.in-Ok-true.field-0 c.in-Ok-true.field-0-test
    c.in-Ok-true.ensures.byte)

pub returns-in-Ok-true-clause-room : goal.returns-in-Ok-true-clause-room
returns-in-Ok-true-clause-room g c others fits =
    c.apply_all.ensures.room others (rw (c.as_slice-in-Ok-true.ensures.value) fits)

pub returns-in-Ok-true-clause-crash : goal.returns-in-Ok-true-clause-crash
returns-in-Ok-true-clause-crash g c =
    let d = g.D.Disk.disk in
    let old = c.args.journal.now in
    let new = c.resolve.new.self in
    let doubt = c.args.doubt.now.items in
    let some : IsGroup doubt = subst (λ (entries : List Entry). IsGroup entries) c.as_slice.ensures.value
    (c.is_empty.ensures.some c.if-is_empty.false) in
    let history = c.args.host.now.history in
    let is = next_is (d old.disk) (d new.disk) old.gate old.doubt history doubt some c.requires.stands in
    crash-settled (d old.disk) (d new.disk) old.gate old.doubt history doubt some c.requires.stands
    (c.in-Ok-true.ensures.crash (old.gate + 13 + length (spellings doubt)) is)

pub returns-in-Ok-false-clause-stands : goal.returns-in-Ok-false-clause-stands
returns-in-Ok-false-clause-stands g c =
    let d = g.D.Disk.disk in
    let old = c.args.journal.now in
    let new = c.resolve.new.self in
    let doubt = c.args.doubt.now.items in
    let some : IsGroup doubt = subst (λ (entries : List Entry). IsGroup entries) c.as_slice.ensures.value
    (c.is_empty.ensures.some c.if-is_empty.false) in
    let history = c.args.host.now.history in
    let n : ℕ = old.gate + 13 + length (spellings doubt) in
    let is = next_is (d old.disk) (d new.disk) old.gate old.doubt history doubt some c.requires.stands in
    let stays : new.gate ≡ old.gate = c.in-Ok-false.ensures.sure.1 n is
    ∙ ap (λ (b : Bool). cond b n old.gate) c.in-Ok-false.field-0-test in
    let settled : Told (d old.disk) (d new.disk) (Settles old.gate n old.gate false) =
    subst (λ (here : ℕ). Told (d old.disk) (d new.disk) (Settles old.gate n here false)) stays
    (subst (λ (b : Bool). Told (d old.disk) (d new.disk) (Settles old.gate n new.gate b)) c.in-Ok-false.field-0-test
    (c.in-Ok-false.ensures.settles n is)) in
    subst (λ (entries : List Entry). Stands (d new.disk) new.gate new.doubt history entries)
    (sym c.clear-in-Ok-false.ensures.items)
    (subst (λ (next : Option ℕ). Stands (d new.disk) new.gate next history []) (sym c.in-Ok-false.ensures.sure.0)
    (subst (λ (gate : ℕ). Stands (d new.disk) gate None history []) (sym stays)
    (Stands-dropped (d old.disk) (d new.disk) old.gate old.doubt history doubt some c.requires.stands settled)))

pub returns-in-Ok-false-clause-resolves : goal.returns-in-Ok-false-clause-resolves
returns-in-Ok-false-clause-resolves g c =
    let d = g.D.Disk.disk in
    let old = c.args.journal.now in
    Resolves-drops old.gate (d old.disk) c.args.host.now.history c.args.doubt.now.items c.in-Ok-false.field-0
    c.in-Ok-false.field-0-test c.in-Ok-false.ensures.byte

pub returns-in-Ok-false-clause-room : goal.returns-in-Ok-false-clause-room
returns-in-Ok-false-clause-room g c others fits =
    fits-behind Fits c.args.host.now.room c.room_lasts.ensures.rest c.args.doubt.now.items others fits

pub returns-in-Ok-false-clause-crash : goal.returns-in-Ok-false-clause-crash
returns-in-Ok-false-clause-crash g c =
    let d = g.D.Disk.disk in
    let old = c.args.journal.now in
    let new = c.resolve.new.self in
    let doubt = c.args.doubt.now.items in
    let some : IsGroup doubt = subst (λ (entries : List Entry). IsGroup entries) c.as_slice.ensures.value
    (c.is_empty.ensures.some c.if-is_empty.false) in
    let history = c.args.host.now.history in
    let is = next_is (d old.disk) (d new.disk) old.gate old.doubt history doubt some c.requires.stands in
    crash-settled (d old.disk) (d new.disk) old.gate old.doubt history doubt some c.requires.stands
    (c.in-Ok-false.ensures.crash (old.gate + 13 + length (spellings doubt)) is)
