-- Places in a journal, and what stands there.
use Rattle.std.specs.Prelude.{◌≡◌, ◌≢◌, ◌⊎◌, ℕ, ◌+◌, ◌<◌, ◌≤◌, List, [], ◌++◌, length, take, drop, slice_index, slice_index_or, Option, Some, None, IfSome}
use Rattle.tb_disk.specs.Past.{Past, contents_of}
use Rattle.tb_disk.specs.Disks.{DiskState}
use Rattle.tb_journal.specs.declared.form.Form.{Form}
use Rattle.tb_journal.specs.declared.form.Form.TheVariants.{Second}
use Rattle.tb_journal.specs.declared.fault.JournalFault.{JournalFault}
use Rattle.tb_journal.specs.declared.fault.JournalFault.TheVariants.{DiskFault, NotAJournal, Unsealed, Damaged, OutOfMemory}
use Rattle.tb_journal.specs.Frames.{open_gate, head_of, IsPayload, framed_in, front_in}
use Rattle.tb_journal.specs.Image.{IsFramedIn, StandsIn, IsBrokenIn}

-- the file's frames end at this place, where a gate byte stands that isn't 1; so many frames stand before it
pub record EndsAt (form : Form) (gate ordinal : ℕ) (file : List ℕ) : Type 0 where
  pub payloads : List (List ℕ)
  pub place : length (front_in form payloads) ≡ gate
  pub count : length payloads ≡ ordinal
  pub framed : IsFramedIn form payloads file

-- the frame with this ordinal stands at this place and ends at the next one, or a gate byte that isn't 1 stands here
abbrev pub PassesFrame : Form → ℕ → ℕ → List ℕ → Option ℕ → Type 0
PassesFrame form ordinal place file None = (place < length file) × (slice_index file place ≢ open_gate)
PassesFrame form ordinal place file (Some next) =
    (place < length file)
    × (slice_index file place ≡ open_gate)
    × ((payload more : List ℕ) × IsPayload payload
    × (drop (place + 1) file ≡ framed_in form ordinal payload ++ more)
    × (next ≡ place + 1 + head_of form + length payload))

-- no gate byte stands at this place, or an open one before no frame with this ordinal
abbrev pub StopsAt : Form → ℕ → ℕ → List ℕ → JournalFault → Type 0
StopsAt form ordinal place file (Damaged at) = (at ≡ place) × IsBrokenIn form ordinal (drop place file)
StopsAt form ordinal place file DiskFault = Unit {0}
StopsAt form ordinal place file (NotAJournal found) = ⊥
StopsAt form ordinal place file (Unsealed byte) = ⊥
StopsAt form ordinal place file OutOfMemory = ⊥

-- the file stands for these payloads, and this is the place behind their frames
pub record ReadsTo (form : Form) (payloads : List (List ℕ)) (gate : ℕ) (file : List ℕ) : Type 0 where
  pub place : length (front_in form payloads) ≡ gate
  pub stands : StandsIn form payloads file

-- the same of some payloads
abbrev pub ReadsSome : Form → ℕ → List ℕ → Type 0
ReadsSome form gate file = (payloads : List (List ℕ)) × ReadsTo form payloads gate file

-- one of the journal's frames stands at this place, or it is the place behind them
pub record IsPlaceIn (form : Form) (gate place : ℕ) (past : Past) : Type 0 where
  pub payloads : List (List ℕ)
  pub reads : ReadsTo form payloads gate (contents_of past)
  pub count : ℕ
  pub within : count ≤ length payloads
  pub is : length (front_in form (take count payloads)) ≡ place

-- the same where the disk tells it; in any case the place isn't behind the gate
pub record StandsAtIn (form : Form) (disk : DiskState) (gate place : ℕ) : Type 0 where
  pub within : place ≤ gate
  pub told : IfSome disk.past (IsPlaceIn form gate place)

-- this payload was read, whose frame ends at this place: it is the one that stands behind so many payloads
abbrev pub GivesFrameIn : Form → ℕ → ℕ → List ℕ → ℕ → Past → Type 0
GivesFrameIn form gate place payload next past = (payloads : List (List ℕ)) (count : ℕ)
    → ReadsTo form payloads gate (contents_of past)
    → count ≤ length payloads → length (front_in form (take count payloads)) ≡ place
    → (count < length payloads)
    × (payload ≡ slice_index_or payloads count [])
    × (next ≡ length (front_in form (take (count + 1) payloads)))

-- A payload of a payload's length stands between these places. Or it isn't one and ends at the gate: where the disk
-- tells its contents there is none such.
abbrev pub StandsBetweenIn : Form → ℕ → ℕ → ℕ → ℕ → Type 0
StandsBetweenIn form gate place size next =
    ((1 ≤ size) × (size ≤ 32768) × (next ≡ place + 1 + head_of form + size)) ⊎ ((size ≡ 0) × (next ≡ gate))

-- the same in the second form
abbrev pub StandsAt : DiskState → ℕ → ℕ → Type 0
StandsAt disk gate place = StandsAtIn Second disk gate place

abbrev pub GivesFrame : ℕ → ℕ → List ℕ → ℕ → Past → Type 0
GivesFrame gate place payload next past = GivesFrameIn Second gate place payload next past

abbrev pub StandsBetween : ℕ → ℕ → ℕ → ℕ → Type 0
StandsBetween gate place size next = StandsBetweenIn Second gate place size next
