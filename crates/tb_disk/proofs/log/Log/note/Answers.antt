use Rattle.std.proofs.Common.{◌≡◌, [], ◌∷◌, ◌++◌, length, arith, ap, rules, length-append, ◌∙◌, List, ℕ}
use Rattle.tb_disk.proofs.Noting.{sizes_of-push, after_notes-push}
use Rattle.tb_disk.specs.Notes.{sizes_of, after_notes}
use Rattle.tb_disk.specs.Past.{Began}
use Rattle.tb_disk.specs.declared.note.Note.{Note}
use Rattle.tb_disk.proofs.log.Log.note.Goals as goal

pub invariant_of-self-clause-sized : goal.invariant_of-self-clause-sized
invariant_of-self-clause-sized c =
    let noted : c.push.new.self.items ≡ c.args.self.now.notes.items ++ c.args.note ∷ [] = search rules in
    let wrote : c.extend_from_slice.new.self.items ≡ c.args.self.now.written.items ++ c.args.bytes.now = search rules in
    omega (
      arith,
      ap length wrote,
      length-append c.args.self.now.written.items c.args.bytes.now,
      ap sizes_of noted,
      sizes_of-push c.args.self.now.notes.items c.args.note,
      c.requires.size,
      c.args.self.now.sized,
    )

pub returns-clause-told : goal.returns-clause-told
returns-clause-told c torn =
    let noted : c.push.new.self.items ≡ c.args.self.now.notes.items ++ c.args.note ∷ [] = search rules in
    let wrote : c.extend_from_slice.new.self.items ≡ c.args.self.now.written.items ++ c.args.bytes.now = search rules in
    ap (λ (notes : List Note). after_notes torn (Began c.args.self.now.first.items) notes
    c.extend_from_slice.new.self.items) noted
    ∙ (ap (λ (bytes : List ℕ). after_notes torn (Began c.args.self.now.first.items)
    (c.args.self.now.notes.items ++ c.args.note ∷ []) bytes) wrote
    ∙ after_notes-push torn (Began c.args.self.now.first.items) c.args.self.now.notes.items
    c.args.self.now.written.items c.args.note c.args.bytes.now c.args.self.now.sized c.requires.size)
