-- What an opening finds in a journal's payloads.
use Rattle.std.specs.Prelude.{◌≡◌, ◌≢◌, ◌⊎◌, ℕ, ◌<◌, List, [], ◌++◌, length, take, slice_index_or, Result, Ok, Err}
use Rattle.tb_disk.specs.Past.{Past, Then}
use Rattle.tb_disk.specs.Steps.{Synced}
use Rattle.tb_journal.specs.Frames.{front_in}
use Rattle.tb_journal.specs.Image.{StandsIn, IsForeignTo, IsDamagedIn}
use Rattle.tb_journal.specs.Answers.{IsUnsealedIn}
use Rattle.tb_journal.specs.Opening.{BreaksOff}
use Rattle.tb_journal.specs.declared.fault.JournalFault.{JournalFault}
use Rattle.tb_journal.specs.declared.fault.JournalFault.TheVariants as journal
use Rattle.tb_desk.specs.declared.fault.OpenFault.{OpenFault}
use Rattle.tb_desk.specs.declared.fault.OpenFault.TheVariants as fault
use Rattle.tb_message.specs.declared.message.Entry.{Entry}
use Rattle.tb_message.specs.declared.version.Version.{Version}
use Rattle.tb_message.specs.declared.version.Version.TheVariants.{Second}
use Rattle.tb_message.specs.Spelling.{spellings_in}
use Rattle.tb_history.specs.Legal.{IsLegal}
use Rattle.tb_desk.specs.Stands.{joined, form_of, payloads_in, IsGroup, StandsForHistoryIn}

-- The payload is the records of no group that can follow on the history: it is no list of records, or one of them isn't
-- accepted on those before it, or its moment goes back.
abbrev pub IsNoGroupIn : Version → List Entry → List ℕ → Type 0
IsNoGroupIn version history payload = (group : List Entry) → IsGroup group → payload ≡ spellings_in version group
    → ¬ (IsLegal (history ++ group))

-- The payloads before this place are groups that make up a legal history, and the one there is no group that can
-- follow.
pub record IsBadPayloadIn (version : Version) (payloads : List (List ℕ)) (place : ℕ) : Type 0 where
  pub groups : List (List Entry)
  pub legal : IsLegal (joined groups)
  pub within : length groups < length payloads
  pub before : payloads_in version groups ≡ take (length groups) payloads
  pub bad : IsNoGroupIn version (joined groups) (slice_index_or payloads (length groups) [])
  pub at : place ≡ length (front_in (form_of version) (payloads_in version groups))

-- a refusal of the journal is one of the desk
abbrev pub lifted : JournalFault → OpenFault
lifted journal.DiskFault = fault.DiskFault
lifted (journal.NotAJournal found) = fault.NotAJournal found
lifted (journal.Unsealed byte) = fault.Unsealed byte
lifted (journal.Damaged place) = fault.Damaged place
lifted journal.OutOfMemory = fault.OutOfMemory

-- what an opening may answer: the history, or the refusal
abbrev pub Answer : Type 0
Answer = Result (List Entry) OpenFault

-- the answer is true of the file
abbrev pub IsTrueIn : Version → List ℕ → Answer → Type 0
IsTrueIn version file (Ok history) = StandsForHistoryIn version history file × IsLegal history
IsTrueIn version file (Err (fault.NotAJournal found)) = IsForeignTo (form_of version) file found
IsTrueIn version file (Err (fault.Unsealed byte)) = IsUnsealedIn (form_of version) file byte
IsTrueIn version file (Err (fault.Damaged place)) =
    IsDamagedIn (form_of version) file place
    ⊎ ((payloads : List (List ℕ)) × StandsIn (form_of version) payloads file × IsBadPayloadIn version payloads place)
IsTrueIn version file (Err fault.DiskFault) = Unit {0}
IsTrueIn version file (Err fault.OutOfMemory) = Unit {0}

-- the refusal isn't that a seal is missing
abbrev pub IsSealed : OpenFault → Type 0
IsSealed (fault.Unsealed byte) = ⊥
IsSealed (fault.NotAJournal found) = Unit {0}
IsSealed (fault.Damaged place) = Unit {0}
IsSealed fault.DiskFault = Unit {0}
IsSealed fault.OutOfMemory = Unit {0}

-- the answer speaks of the file, and not of a failing disk or of memory
abbrev pub SpeaksOfFile : Answer → Type 0
SpeaksOfFile answer = (answer ≢ Err fault.DiskFault) × (answer ≢ Err fault.OutOfMemory)

-- It is true of the file, and no other is: so where the disk doesn't fail and memory doesn't run out, each answer is
-- given exactly where it is true.
pub record IsExactIn (version : Version) (file : List ℕ) (answer : Answer) : Type 0 where
  pub is_true : IsTrueIn version file answer
  pub only : (other : Answer) → IsTrueIn version file other → SpeaksOfFile other → SpeaksOfFile answer → answer ≡ other

-- the same in the second version
abbrev pub IsNoGroup : List Entry → List ℕ → Type 0
IsNoGroup history payload = IsNoGroupIn Second history payload

abbrev pub IsBadPayload : List (List ℕ) → ℕ → Type 0
IsBadPayload payloads place = IsBadPayloadIn Second payloads place

abbrev pub IsTrueOf : List ℕ → Answer → Type 0
IsTrueOf file answer = IsTrueIn Second file answer

abbrev pub IsExact : List ℕ → Answer → Type 0
IsExact file answer = IsExactIn Second file answer

-- A file that is no journal, unsealed or damaged, was put on the disk and nothing else. Where the disk failed or memory
-- ran out no more was done to it than an opening does.
abbrev pub LeavesRefused : OpenFault → Past → Past → Type 0
LeavesRefused (fault.NotAJournal found) before now = now ≡ Then Synced before
LeavesRefused (fault.Unsealed byte) before now = now ≡ Then Synced before
LeavesRefused (fault.Damaged place) before now = now ≡ Then Synced before
LeavesRefused fault.DiskFault before now = BreaksOff before now
LeavesRefused fault.OutOfMemory before now = BreaksOff before now
