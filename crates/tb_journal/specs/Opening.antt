-- What opening a journal does to its disk.
use Rattle.std.specs.Prelude.{◌≡◌, ◌⊎◌, ℕ, ◌<◌, ◌≤◌, List, [], ◌∷◌, ◌++◌, length}
use Rattle.tb_disk.specs.Steps.{Wrote, Tore, Synced, Torn}
use Rattle.tb_disk.specs.Past.{Past, Then, contents_of, MayLeave, Leaves}
use Rattle.tb_journal.specs.Frames.{header, closed_gate, empty_size}
use Rattle.tb_journal.specs.Image.{StandsFor}
use Rattle.tb_journal.specs.Journal.{Holds, SyncsOrNot}

-- what the old file stood for, the new one stands for too
abbrev pub StandsAsWell : List ℕ → List ℕ → Type 0
StandsAsWell old new = (payloads : List (List ℕ)) → StandsFor payloads old → StandsFor payloads new

-- all was put on the disk, and this is its length
abbrev pub Measures : ℕ → Past → Past → Type 0
Measures size before now = (now ≡ Then Synced before) × (size ≡ length (contents_of before))

-- the file stood for payloads, and the disk holds them with a gate at this place
abbrev pub Finds : ℕ → Past → Past → Type 0
Finds gate before now = (payloads : List (List ℕ)) × StandsFor payloads (contents_of before) × Holds payloads gate now

-- so many payloads were found
abbrev pub FindsSoMany : ℕ → Past → Past → Type 0
FindsSoMany ordinal before now = (payloads : List (List ℕ)) → StandsFor payloads (contents_of before)
    → length payloads ≡ ordinal

-- an empty journal: the header and a closed gate
abbrev pub empty_journal : List ℕ
empty_journal = header ++ closed_gate ∷ []

-- an empty journal was written, and synced
abbrev pub made_past : Past → Past
made_past before = Then Synced (Then (Wrote 0 empty_journal) before)

-- All was put on the disk; over at most 18 bytes an empty journal was made then, and over more nothing was written.
pub record Opens (before now : Past) : Type 0 where
  pub kept : empty_size < length (contents_of before) → now ≡ Then Synced before
  pub made : length (contents_of before) ≤ empty_size → now ≡ made_past (Then Synced before)

-- the disk failed while an empty journal was written or synced
abbrev pub MadeInPart : Past → Past → Type 0
MadeInPart before now =
    (now ≡ before)
    ⊎ ((left : List ℕ) × Torn 0 18 18 (contents_of before) left × (now ≡ Then (Tore 0 18 left) before))
    ⊎ (now ≡ Then (Wrote 0 empty_journal) before)

-- An opening that a failing disk or want of memory broke off. Over more than 18 bytes all was put on the disk, or
-- nothing happened; over at most 18 it did nothing, or put all on the disk and made none, a part or the whole of an
-- empty journal.
pub record BreaksOff (before now : Past) : Type 0 where
  pub kept : empty_size < length (contents_of before) → SyncsOrNot before now
  pub made : length (contents_of before) ≤ empty_size
      → (now ≡ before) ⊎ (MadeInPart (Then Synced before) now ⊎ (now ≡ made_past (Then Synced before)))

-- Each crash since leaves what a crash before could leave, or what stands for all that the disk stood for; and so do
-- the contents.
pub record IsHarmless (before now : Past) : Type 0 where
  pub contents : StandsAsWell (contents_of before) (contents_of now)
  pub images : Leaves (λ c. MayLeave before c ⊎ StandsAsWell (contents_of before) c) before now
