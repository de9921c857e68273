-- What the notes of a disk in memory say of its past.
use Rattle.std.specs.Prelude.{ℕ, ◌+◌, ◌-◌, min, List, [], ◌∷◌, length, take, drop, replicate}
use Rattle.tb_disk.specs.Steps.{Wrote, Tore, CutTo, Synced, over}
use Rattle.tb_disk.specs.Past.{Past, Then, contents_of}
use Rattle.tb_disk.specs.declared.note.Note.{Note}
use Rattle.tb_disk.specs.declared.note.Note.TheVariants.{Write, TornWrite, Cut, Sync, Nothing}

-- a call that writes no bytes
abbrev pub WritesNothing : Note → Type 0
WritesNothing (Write place size) = ⊥
WritesNothing (TornWrite place size) = ⊥
WritesNothing (Cut n) = Unit {0}
WritesNothing Sync = Unit {0}
WritesNothing Nothing = Unit {0}

-- how many bytes a call writes
abbrev pub size_of : Note → ℕ
size_of (Write place size) = size
size_of (TornWrite place size) = size
size_of (Cut n) = 0
size_of Sync = 0
size_of Nothing = 0

-- how many bytes these calls write
abbrev pub sizes_of : List Note → ℕ
sizes_of [] = 0
sizes_of (note ∷ notes) = size_of note + sizes_of notes

-- a failed write in memory: each byte of its range that was there is the torn byte
abbrev pub torn_over : ℕ → ℕ → ℕ → List ℕ → List ℕ
torn_over place size torn old = over place (replicate (min size (length old - place)) torn) old

-- the past after a call, with the bytes that it wrote
abbrev pub after_note : ℕ → Note → List ℕ → Past → Past
after_note torn (Write place size) bytes older = Then (Wrote place bytes) older
after_note torn (TornWrite place size) bytes older = Then (Tore place size
    (torn_over place size torn (contents_of older))) older
after_note torn (Cut n) bytes older = Then (CutTo n) older
after_note torn Sync bytes older = Then Synced older
after_note torn Nothing bytes older = older

-- the past after these calls, with the bytes that they wrote one after another
abbrev pub after_notes : ℕ → Past → List Note → List ℕ → Past
after_notes torn older [] written = older
after_notes torn older (note ∷ notes) written = after_notes torn
    (after_note torn note (take (size_of note) written) older) notes (drop (size_of note) written)
