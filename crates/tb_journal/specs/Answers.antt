-- What an opening may answer.
use Rattle.std.specs.Prelude.{◌≡◌, ◌≢◌, ℕ, List, length, Result, Ok, Err}
use Rattle.tb_disk.specs.Steps.{Synced}
use Rattle.tb_disk.specs.Past.{Past, Then}
use Rattle.tb_journal.specs.declared.form.Form.{Form}
use Rattle.tb_journal.specs.declared.form.Form.TheVariants.{First, Second}
use Rattle.tb_journal.specs.Frames.{front_in}
use Rattle.tb_journal.specs.Image.{StandsIn, IsForeignTo, IsUnsealed, IsDamagedIn}
use Rattle.tb_journal.specs.Opening.{BreaksOff}
use Rattle.tb_journal.specs.declared.fault.JournalFault.{JournalFault}
use Rattle.tb_journal.specs.declared.fault.JournalFault.TheVariants.{DiskFault, NotAJournal, Unsealed, Damaged, OutOfMemory}

-- the payloads that were found, or the refusal
abbrev pub Answer : Type 0
Answer = Result (List (List ℕ)) JournalFault

-- the byte in the place of the seal isn't 1; a journal of the first form has no seal
abbrev pub IsUnsealedIn : Form → List ℕ → ℕ → Type 0
IsUnsealedIn First file byte = ⊥
IsUnsealedIn Second file byte = IsUnsealed file byte

-- the answer is true of the file: where memory ran out it is a journal
abbrev pub IsTrueIn : Form → List ℕ → Answer → Type 0
IsTrueIn form file (Ok payloads) = StandsIn form payloads file
IsTrueIn form file (Err (NotAJournal found)) = IsForeignTo form file found
IsTrueIn form file (Err (Unsealed byte)) = IsUnsealedIn form file byte
IsTrueIn form file (Err (Damaged place)) = IsDamagedIn form file place
IsTrueIn form file (Err DiskFault) = Unit {0}
IsTrueIn form file (Err OutOfMemory) = (payloads : List (List ℕ)) × StandsIn form payloads file

-- a walk to the gate takes no memory, and finds no seal in the first form
abbrev pub ComesOfWalk : JournalFault → Form → Type 0
ComesOfWalk OutOfMemory form = ⊥
ComesOfWalk (Unsealed byte) First = ⊥
ComesOfWalk (Unsealed byte) Second = Unit {0}
ComesOfWalk (NotAJournal found) form = Unit {0}
ComesOfWalk (Damaged place) form = Unit {0}
ComesOfWalk DiskFault form = Unit {0}

-- the answer speaks of the file, and not of a failing disk or of memory
abbrev pub SpeaksOfFile : Answer → Type 0
SpeaksOfFile answer = (answer ≢ Err DiskFault) × (answer ≢ Err OutOfMemory)

-- It is true of the file, and no other is: so where the disk doesn't fail and memory doesn't run out, each answer is
-- given exactly where it is true.
pub record IsExactIn (form : Form) (file : List ℕ) (answer : Answer) : Type 0 where
  pub is_true : IsTrueIn form file answer
  pub only : (other : Answer) → IsTrueIn form file other → SpeaksOfFile other → SpeaksOfFile answer → answer ≡ other

-- the gate stands at this place behind the payloads that were found, and that these were found is exact
pub record IsExactAtIn (form : Form) (gate : ℕ) (file : List ℕ) : Type 0 where
  pub payloads : List (List ℕ)
  pub place : length (front_in form payloads) ≡ gate
  pub exact : IsExactIn form file (Ok payloads)

-- the same in the second form
abbrev pub IsTrueOf : List ℕ → Answer → Type 0
IsTrueOf file answer = IsTrueIn Second file answer

abbrev pub IsExact : List ℕ → Answer → Type 0
IsExact file answer = IsExactIn Second file answer

abbrev pub IsExactAt : ℕ → List ℕ → Type 0
IsExactAt gate file = IsExactAtIn Second gate file

-- A file that is no journal, unsealed or damaged, was put on the disk and nothing else. Where the disk failed or memory
-- ran out no more was done to it than an opening does.
abbrev pub LeavesRefused : JournalFault → Past → Past → Type 0
LeavesRefused (NotAJournal found) before now = now ≡ Then Synced before
LeavesRefused (Unsealed byte) before now = now ≡ Then Synced before
LeavesRefused (Damaged place) before now = now ≡ Then Synced before
LeavesRefused DiskFault before now = BreaksOff before now
LeavesRefused OutOfMemory before now = BreaksOff before now
