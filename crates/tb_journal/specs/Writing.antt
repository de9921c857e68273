-- What a file is while a journal is written into it, and what the calls of a writer do.
use Rattle.std.specs.Prelude.{◌≡◌, ◌≢◌, ◌⊎◌, ℕ, ◌≤◌, ◌+◌, List, [], ◌∷◌, ◌++◌, length}
use Rattle.tb_link.specs.Counts.{Rose, NeverFalls}
use Rattle.tb_disk.specs.Steps.{Synced}
use Rattle.tb_disk.specs.Past.{Past, Then, contents_of, MayLeave, IsSynced, Leaves}
use Rattle.tb_disk.specs.Disks.{DiskState}
use Rattle.tb_journal.specs.Journal.{Told}
use Rattle.tb_journal.specs.declared.form.Form.TheVariants.{Second}
use Rattle.tb_journal.specs.Frames.{title_of, first_place, empty_of, head_of, sealed, closed_gate, ArePayloads, frames, front}
use Rattle.tb_journal.specs.Image.{StandsFor, IsNoJournal, IsUnsealed}

-- No payload is found in it: it has at most 18 bytes, or is no journal, or is unsealed.
abbrev pub IsBlank : List ℕ → Type 0
IsBlank file =
    (length file ≤ empty_of Second)
    ⊎ (((found : List ℕ) × IsNoJournal file found) ⊎ ((byte : ℕ) × IsUnsealed file byte))

-- the old contents, or blank
abbrev pub IsOldOrBlank : List ℕ → List ℕ → Type 0
IsOldOrBlank old file = (file ≡ old) ⊎ IsBlank file

-- blank, or it stands for the payloads
abbrev pub IsBlankOr : List (List ℕ) → List ℕ → Type 0
IsBlankOr payloads file = IsBlank file ⊎ StandsFor payloads file

-- the old contents, or blank, or it stands for the payloads
abbrev pub IsOldBlankOr : List ℕ → List (List ℕ) → List ℕ → Type 0
IsOldBlankOr old payloads file = (file ≡ old) ⊎ IsBlankOr payloads file

-- the byte in the seal's place isn't 1
pub record IsGuarded (file : List ℕ) : Type 0 where
  pub head : List ℕ
  pub byte : ℕ
  pub rest : List ℕ
  pub is : file ≡ head ++ byte ∷ rest
  pub place : length head ≡ 16
  pub unsealed : byte ≢ sealed

-- An unsealed journal of these payloads without the gate behind them, where the next frame will stand. Whatever a crash
-- leaves of it is unsealed too.
pub record IsWritten (payloads : List (List ℕ)) (place : ℕ) (past : Past) : Type 0 where
  pub sizes : ArePayloads payloads
  pub byte : ℕ
  pub is : contents_of past ≡ title_of Second ++ byte ∷ frames 0 payloads
  pub size : length (contents_of past) ≡ place
  pub unsealed : byte ≢ sealed
  pub images : (image : List ℕ) → MayLeave past image → IsGuarded image

-- so many payloads are written, and the next frame will stand at this place
abbrev pub IsWriting : ℕ → ℕ → Past → Type 0
IsWriting place ordinal past =
    (payloads : List (List ℕ)) × IsWritten payloads place past × (length payloads ≡ ordinal)

-- a sealed journal of the payloads is on the disk, and nothing behind it
pub record IsSealed (payloads : List (List ℕ)) (past : Past) : Type 0 where
  pub sizes : ArePayloads payloads
  pub is : contents_of past ≡ front payloads ++ closed_gate ∷ []
  pub synced : IsSynced past

-- These payloads are written over what the file held. Each crash since the first sync left what the file had then, or
-- what is blank.
abbrev pub Writes : List (List ℕ) → ℕ → Past → Past → Type 0
Writes payloads place before now =
    IsWritten payloads place now × Leaves (IsOldOrBlank (contents_of before)) (Then Synced before) now

-- the place of the first frame
abbrev pub start : ℕ
start = first_place Second

-- a journal without a payload is begun
abbrev pub Begins : Past → Past → Type 0
Begins = Writes [] start

-- The disk failed before the journal was sealed. Nothing happened, or each crash since the first sync left what the
-- file had then, or what is blank.
abbrev pub StopsUnsealed : Past → Past → Type 0
StopsUnsealed before now = (now ≡ before) ⊎ Leaves (IsOldOrBlank (contents_of before)) (Then Synced before) now

-- a journal wasn't begun
pub record FailsToBegin (old new : DiskState) : Type 0 where
  pub stops : Told old new StopsUnsealed
  pub fault : Rose old.faults new.faults
  pub count : NeverFalls old.faults new.faults

-- where the frame behind a payload will stand
abbrev pub behind : ℕ → List ℕ → ℕ
behind place payload = place + (1 + head_of Second) + length payload

-- a payload is written behind so many; each crash meanwhile leaves what is blank
abbrev pub Adds : List ℕ → ℕ → ℕ → Past → Past → Type 0
Adds payload ordinal place before now = (payloads : List (List ℕ)) → IsWritten payloads place before
    → length payloads ≡ ordinal
    → IsWritten (payloads ++ payload ∷ []) (behind place payload) now × Leaves IsBlank before now

-- it was written in part
abbrev pub AddsInPart : ℕ → Past → Past → Type 0
AddsInPart place before now = (payloads : List (List ℕ)) → IsWritten payloads place before
    → Leaves IsBlank before now

-- these payloads are written behind so many; each crash meanwhile leaves what is blank
abbrev pub AddsAll : List (List ℕ) → ℕ → ℕ → Past → Past → Type 0
AddsAll added ordinal place before now = (payloads : List (List ℕ)) → IsWritten payloads place before
    → length payloads ≡ ordinal
    → IsWritten (payloads ++ added) (place + length (frames ordinal added)) now × Leaves IsBlank before now

-- they were written in part
abbrev pub AddsAllInPart : ℕ → ℕ → Past → Past → Type 0
AddsAllInPart ordinal place before now = (payloads : List (List ℕ)) → IsWritten payloads place before
    → length payloads ≡ ordinal → Leaves IsBlank before now

-- The payloads are sealed. From then on each crash leaves them, and each meanwhile leaves them or what is blank.
abbrev pub Seals : ℕ → Past → Past → Type 0
Seals place before now = (payloads : List (List ℕ)) → IsWritten payloads place before
    → IsSealed payloads now × Leaves (IsBlankOr payloads) before now

-- the disk failed while they were sealed
abbrev pub SealsInPart : ℕ → Past → Past → Type 0
SealsInPart place before now = (payloads : List (List ℕ)) → IsWritten payloads place before
    → Leaves (IsBlankOr payloads) before now

-- A whole journal was written over what the file held. Each crash since the first sync left what the file had then, or
-- what is blank, or what stands for the payloads.
abbrev pub Rewrites : List (List ℕ) → Past → Past → Type 0
Rewrites payloads before now =
    IsSealed payloads now × Leaves (IsOldBlankOr (contents_of before) payloads) (Then Synced before) now

-- The disk failed before it was whole. Nothing happened, or each crash since the first sync left what the file had
-- then, or what is blank, or what stands for the payloads.
abbrev pub RewritesInPart : List (List ℕ) → Past → Past → Type 0
RewritesInPart payloads before now =
    (now ≡ before) ⊎ Leaves (IsOldBlankOr (contents_of before) payloads) (Then Synced before) now
