-- Which files stand for which history, and what a journal's disk holds of it.
use Rattle.std.specs.Prelude.{◌≡◌, ◌⊎◌, ℕ, ◌+◌, ◌≤◌, Bool, ◌==◌, List, [], ◌∷◌, ◌++◌, length, map, slice_index, Option, Some, None, IfSome}
use Rattle.std.specs.List.{flat_map, All}
use Rattle.tb_disk.specs.Past.{Past, contents_of, MayLeave, Leaves}
use Rattle.tb_disk.specs.Disks.{DiskState}
use Rattle.tb_journal.specs.Frames.{front}
use Rattle.tb_journal.specs.declared.form.Form.{Form}
use Rattle.tb_journal.specs.declared.form.Form.TheVariants as forms
use Rattle.tb_journal.specs.Image.{StandsIn}
use Rattle.tb_journal.specs.Journal.{Told, Holds, InDoubt}
use Rattle.tb_message.specs.declared.message.Entry.{Entry}
use Rattle.tb_message.specs.declared.version.Version.{Version}
use Rattle.tb_message.specs.declared.version.Version.TheVariants as versions
use Rattle.tb_message.specs.Spelling.{spellings, spellings_in}
use Rattle.tb_history.specs.Legal.{IsLegal}

-- the entries of groups, one group behind the other
abbrev pub joined : List (List Entry) → List Entry
joined groups = flat_map (λ (group : List Entry). group) groups

-- the form of a journal of this version
abbrev pub form_of : Version → Form
form_of versions.First = forms.First
form_of versions.Second = forms.Second

-- a payload is the records of a group's entries, one behind the other
abbrev pub payloads_in : Version → List (List Entry) → List (List ℕ)
payloads_in version groups = map (spellings_in version) groups

abbrev pub payloads_of : List (List Entry) → List (List ℕ)
payloads_of groups = payloads_in versions.Second groups

-- The file's payloads are groups of entries, which make up the history. No payload is empty, and so no group is.
pub record StandsForHistoryIn (version : Version) (history : List Entry) (file : List ℕ) : Type 0 where
  pub groups : List (List Entry)
  pub whole : joined groups ≡ history
  pub stands : StandsIn (form_of version) (payloads_in version groups) file

-- the same in the second version
abbrev pub StandsForHistory : List Entry → List ℕ → Type 0
StandsForHistory history file = StandsForHistoryIn versions.Second history file

-- the file stands for the history, or for it followed by the whole group; where there is none both are one
abbrev pub StandsForEither : List Entry → List Entry → List ℕ → Type 0
StandsForEither history group file = StandsForHistory history file ⊎ StandsForHistory (history ++ group) file

-- each crash now leaves the history, or it followed by the group
abbrev pub LeavesEither : DiskState → List Entry → List Entry → Type 0
LeavesEither disk history group = IfSome disk.past (λ past. (file : List ℕ) → MayLeave past file
    → StandsForEither history group file)

-- during a call each crash leaves what has P
abbrev pub CrashesLeave : (List ℕ → Type 0) → DiskState → DiskState → Type 0
CrashesLeave P old new = Told old new (λ before now. Leaves P before now)

-- the gate byte at this place is 1
abbrev pub is_open : ℕ → Past → Bool
is_open gate past = slice_index (contents_of past) gate == 1

-- a group has an entry
abbrev pub IsGroup : List Entry → Type 0
IsGroup group = 1 ≤ length group

-- where the gate will be behind a group in doubt
abbrev pub gate_behind : ℕ → List Entry → Option ℕ
gate_behind gate [] = None
gate_behind gate (entry ∷ entries) = Some (gate + 13 + length (spellings (entry ∷ entries)))

-- the journal holds the payloads, and the group in doubt may count or not
abbrev pub HoldsAt : List (List ℕ) → List Entry → ℕ → Past → Type 0
HoldsAt payloads [] gate past = Holds payloads gate past
HoldsAt payloads (entry ∷ entries) gate past =
    InDoubt payloads (spellings (entry ∷ entries)) gate (gate + 13 + length (spellings (entry ∷ entries))) past

-- What a desk knows of its journal between its steps: the history is made up of groups, the gate stands behind their
-- frames, and the history is legal also with the group in doubt.
pub record Stands (disk : DiskState) (gate : ℕ) (next : Option ℕ) (history doubt : List Entry) : Type 0 where
  pub groups : List (List Entry)
  pub whole : joined groups ≡ history
  pub sizes : All IsGroup groups
  pub place : gate ≡ length (front (payloads_of groups))
  pub next_place : next ≡ gate_behind gate doubt
  pub legal : IsLegal history
  pub accepted : IsLegal (history ++ doubt)
  pub told : IfSome disk.past (HoldsAt (payloads_of groups) doubt gate)
