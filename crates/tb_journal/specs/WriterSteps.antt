-- What holds between the steps of a writer.
use Rattle.std.specs.Prelude.{◌≡◌, ◌≢◌, ℕ, ◌≤◌, ◌<◌, List, [], ◌∷◌, ◌++◌, length}
use Rattle.tb_disk.specs.Past.{Past, contents_of, IsSynced, Leaves}
use Rattle.tb_journal.specs.declared.form.Form.TheVariants.{Second}
use Rattle.tb_journal.specs.Frames.{title_of, closed_gate, sealed, ArePayloads, frames}
use Rattle.tb_journal.specs.Writing.{IsBlank, IsOldOrBlank, IsBlankOr, IsGuarded, IsWritten, IsSealed, start}

-- all of it is on the disk, and it has more than 16 bytes
pub record IsLong (past : Past) : Type 0 where
  pub synced : IsSynced past
  pub long : 16 < length (contents_of past)

-- all of it is on the disk, and it has at most 16 bytes
pub record IsShort (past : Past) : Type 0 where
  pub synced : IsSynced past
  pub short : length (contents_of past) ≤ 16

-- all of it is on the disk, and the byte in the seal's place isn't 1
pub record IsBroken (past : Past) : Type 0 where
  pub synced : IsSynced past
  pub guarded : IsGuarded (contents_of past)

-- the same, of 17 bytes
pub record IsCut (past : Past) : Type 0 where
  pub broken : IsBroken past
  pub size : length (contents_of past) ≡ 17

-- the frames and a closed gate are on the disk, without the seal
pub record IsClosed (payloads : List (List ℕ)) (past : Past) : Type 0 where
  pub sizes : ArePayloads payloads
  pub byte : ℕ
  pub is : contents_of past ≡ title_of Second ++ byte ∷ (frames 0 payloads ++ closed_gate ∷ [])
  pub unsealed : byte ≢ sealed
  pub synced : IsSynced past

-- each crash meanwhile leaves what was there or what is blank
abbrev pub LeavesOldOrBlank : Past → Past → Type 0
LeavesOldOrBlank before now = Leaves (IsOldOrBlank (contents_of before)) before now

-- each crash meanwhile leaves what is blank
abbrev pub LeavesBlank : Past → Past → Type 0
LeavesBlank before now = Leaves IsBlank before now

-- the seal of what was there is broken
abbrev pub Unseals : Past → Past → Type 0
Unseals before now = IsBroken now × LeavesOldOrBlank before now

-- what stands behind the seal's place is cut off
abbrev pub Cuts : Past → Past → Type 0
Cuts before now = IsCut now × LeavesBlank before now

-- the title is written
abbrev pub Titles : Past → Past → Type 0
Titles before now = IsWritten [] start now × LeavesBlank before now

-- the three of them
abbrev pub Replaces : Past → Past → Type 0
Replaces before now = IsWritten [] start now × LeavesOldOrBlank before now

-- the frames and a closed gate are put on the disk
abbrev pub Closes : ℕ → Past → Past → Type 0
Closes place before now = (payloads : List (List ℕ)) → IsWritten payloads place before
    → IsClosed payloads now × LeavesBlank before now

-- a closed journal is sealed
abbrev pub SetsSeal : Past → Past → Type 0
SetsSeal before now = (payloads : List (List ℕ)) → IsClosed payloads before
    → IsSealed payloads now × Leaves (IsBlankOr payloads) before now

-- the disk failed while it was sealed
abbrev pub SetsSealInPart : Past → Past → Type 0
SetsSealInPart before now = (payloads : List (List ℕ)) → IsClosed payloads before
    → Leaves (IsBlankOr payloads) before now

-- payloads are written, and the next frame will stand at this place
abbrev pub IsPlaceOf : ℕ → Past → Type 0
IsPlaceOf place past = (payloads : List (List ℕ)) × IsWritten payloads place past
