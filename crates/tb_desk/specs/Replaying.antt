-- What replaying a journal's payloads finds.
use Rattle.std.specs.Prelude.{◌≡◌, ℕ, List, length, IfSome}
use Rattle.std.specs.List.{All}
use Rattle.tb_disk.specs.Past.{contents_of}
use Rattle.tb_disk.specs.Disks.{DiskState}
use Rattle.tb_journal.specs.Frames.{front_in}
use Rattle.tb_journal.specs.Places.{ReadsTo}
use Rattle.tb_message.specs.declared.message.Entry.{Entry}
use Rattle.tb_message.specs.declared.version.Version.{Version}
use Rattle.tb_message.specs.declared.version.Version.TheVariants.{Second}
use Rattle.tb_history.specs.Legal.{IsLegal}
use Rattle.tb_desk.specs.declared.fault.OpenFault.{OpenFault}
use Rattle.tb_desk.specs.declared.fault.OpenFault.TheVariants as fault
use Rattle.tb_desk.specs.Stands.{joined, form_of, payloads_in, IsGroup}
use Rattle.tb_desk.specs.Replay.{IsBadPayloadIn}

-- the payloads up to the gate are groups that make up the history, which is legal
pub record IsReplayedIn (version : Version) (disk : DiskState) (gate : ℕ) (history : List Entry) : Type 0 where
  pub groups : List (List Entry)
  pub whole : joined groups ≡ history
  pub sizes : All IsGroup groups
  pub place : gate ≡ length (front_in (form_of version) (payloads_in version groups))
  pub legal : IsLegal history
  pub told : IfSome disk.past (λ past. (payloads : List (List ℕ))
      → ReadsTo (form_of version) payloads gate (contents_of past) → payloads_in version groups ≡ payloads)

-- why the payloads are no legal history
abbrev pub IsReplayFaultIn : Version → DiskState → ℕ → OpenFault → Type 0
IsReplayFaultIn version disk gate (fault.Damaged place) =
    IfSome disk.past (λ past. (payloads : List (List ℕ))
    → ReadsTo (form_of version) payloads gate (contents_of past) → IsBadPayloadIn version payloads place)
IsReplayFaultIn version disk gate (fault.NotAJournal found) = ⊥
IsReplayFaultIn version disk gate (fault.Unsealed byte) = ⊥
IsReplayFaultIn version disk gate fault.DiskFault = Unit {0}
IsReplayFaultIn version disk gate fault.OutOfMemory = Unit {0}

-- the same in the second version
abbrev pub IsReplayed : DiskState → ℕ → List Entry → Type 0
IsReplayed disk gate history = IsReplayedIn Second disk gate history

abbrev pub IsReplayFault : DiskState → ℕ → OpenFault → Type 0
IsReplayFault disk gate why = IsReplayFaultIn Second disk gate why
