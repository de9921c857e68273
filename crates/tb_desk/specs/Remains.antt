-- What remains behind the closed gate of a journal.
use Rattle.std.specs.Prelude.{◌≡◌, ◌≢◌, ◌⊎◌, ℕ, ◌<◌, ◌≤◌, List, [], ◌∷◌, ◌++◌, length}
use Rattle.std.specs.List.{All}
use Rattle.tb_journal.specs.Frames.{ArePayloads, front, open_gate}
use Rattle.tb_journal.specs.Behind.{HasTwoFrames, most_behind}
use Rattle.tb_message.specs.declared.message.Entry.{Entry}
use Rattle.tb_message.specs.Spelling.{IsInRange, spellings}
use Rattle.tb_desk.specs.Stands.{IsGroup}
use Rattle.tb_desk.specs.declared.remains.Remains.{Remains}
use Rattle.tb_desk.specs.declared.remains.Remains.TheVariants as remains

-- the payload is the records of a group of entries, one behind the other
pub record SpellsGroup (payload : List ℕ) : Type 0 where
  pub group : List Entry
  pub some : IsGroup group
  pub in_range : All IsInRange group
  pub is : payload ≡ spellings group

-- two whole frames stand at the front of the bytes, with this ordinal and the next one, and their payloads are groups
pub record HasTwoGroups (ordinal : ℕ) (bytes : List ℕ) : Type 0 where
  pub first : List ℕ
  pub second : List ℕ
  pub frames : HasTwoFrames ordinal first second bytes
  pub first_group : SpellsGroup first
  pub second_group : SpellsGroup second

-- What no append leaves behind a gate before which so many frames stand. More bytes than one writes are left by no
-- crash. Two groups are left by none where a byte whose write was torn is the old byte or the one that was written.
abbrev pub IsDamage : ℕ → List ℕ → Type 0
IsDamage ordinal bytes = (most_behind < length bytes) ⊎ HasTwoGroups ordinal bytes

-- what the bytes are that stand behind the gate at this place, before which so many frames stand
abbrev pub AreRemains : ℕ → ℕ → List ℕ → Remains → Type 0
AreRemains gate ordinal bytes remains.Nothing = bytes ≡ []
AreRemains gate ordinal bytes remains.TornAppend = (1 ≤ length bytes) × (¬ (IsDamage ordinal bytes))
AreRemains gate ordinal bytes (remains.Damage place) = (place ≡ gate) × IsDamage ordinal bytes

-- the file has payloads and a closed gate, behind which this remains
pub record HasRemains (file : List ℕ) (found : Remains) : Type 0 where
  pub payloads : List (List ℕ)
  pub sizes : ArePayloads payloads
  pub gate : ℕ
  pub bytes : List ℕ
  pub is : file ≡ front payloads ++ gate ∷ bytes
  pub closed : gate ≢ open_gate
  pub remains : AreRemains (length (front payloads)) (length payloads) bytes found
