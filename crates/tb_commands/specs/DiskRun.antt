-- What `run` and `serve` do to their disk.
use Rattle.std.specs.Prelude.{◌≡◌, ◌≢◌, ◌⊎◌, ◌+◌, ◌≤◌, List, [], ◌++◌, length, All, Contains, Ok, Err, IfSome}
use Rattle.tb_link.specs.Counts.{Rose, NeverFalls, last_count}
use Rattle.tb_disk.specs.Disks.{DiskState}
use Rattle.tb_disk.specs.Past.{Past, contents_of, MayLeave, Leaves}
use Rattle.tb_journal.specs.Journal.{Told}
use Rattle.tb_journal.specs.Opening.{IsHarmless}
use Rattle.tb_message.specs.declared.message.Entry.{Entry}
use Rattle.tb_history.specs.Legal.{IsLegal}
use Rattle.tb_desk.specs.Desks.{IsBeginningOr, WasAccepted}
use Rattle.tb_desk.specs.Replay.{IsExact, LeavesRefused}
use Rattle.tb_desk.specs.Stands.{LeavesEither, StandsForEither, StandsForHistory}
use Rattle.tb_desk.specs.declared.fault.OpenFault.{OpenFault}
use Rattle.tb_desk.specs.declared.fault.OpenFault.TheVariants as fault
use Rattle.tb_commands.specs.Standings.{Standing, in_doubt}

-- the desk was opened on the disk: this history is what the file stood for, and nothing else is true of the file;
-- nothing is in doubt or was, and no fault was counted
pub record Opened (disk : DiskState) (first : Standing) : Type 0 where
  pub stood : IfSome disk.past (λ past. IsExact (contents_of past) (Ok first.history))
  pub legal : IsLegal first.history
  pub sure : first.doubt ≡ []
  pub none : first.doubted ≡ []
  pub count : first.faults ≡ disk.faults

-- the disk stands for the last history, or for it followed by the group in doubt, and so does what each crash leaves
pub record Stays (last : Standing) (disk : DiskState) : Type 0 where
  pub legal : IsLegal last.history
  pub accepted : IsLegal (last.history ++ last.doubt)
  pub stands : IfSome disk.past (λ past. StandsForEither last.history last.doubt (contents_of past))
  pub leaves : LeavesEither disk last.history last.doubt
  pub count : last.faults ≡ disk.faults

-- Every crash during the command left what a crash before it could leave; or a beginning of the last history that has
-- all that the file stood for; or one followed by one of the groups that were in doubt after a turn, which was accepted
-- there. The group that is in doubt in the end is one of these, behind the whole history. There are no more of them than
-- the disk's count of faults rose, unless it has reached its last value.
pub record CrashesKeep (old new : DiskState) (first last : Standing) : Type 0 where
  pub each : All (WasAccepted last.history (length first.history)) last.doubted
  pub now : 1 ≤ length last.doubt → Contains last.doubted (in_doubt last)
  pub few : (first.faults + length last.doubted ≤ last.faults) ⊎ (last_count ≤ last.faults)
  pub leaves : Told old new
      (λ before now. Leaves
      (λ file. MayLeave before file ⊎ IsBeginningOr last.doubted last.history (length first.history) file) before now)

-- the last history begins with the first
abbrev pub HasGrown : Standing → Standing → Type 0
HasGrown first last = (more : List Entry) × (last.history ≡ first.history ++ more)

-- the desk was opened, and the disk handed back keeps the last history
pub record Keeps (old new : DiskState) (first last : Standing) : Type 0 where
  pub opened : Opened old first
  pub grown : HasGrown first last
  pub stays : Stays last new
  pub since : CrashesKeep old new first last

-- the desk was opened and closed on the disk, and this is so of where the script stood first and last
abbrev pub OnDesk : DiskState → DiskState → (Standing → Standing → Type 0) → Type 0
OnDesk old new Holds = (first : Standing) × (last : Standing) × Keeps old new first last × Holds first last

-- what the old file stood for, the new one stands for still
abbrev pub StandsStill : Past → Past → Type 0
StandsStill before now = (history : List Entry)
    → StandsForHistory history (contents_of before)
    → StandsForHistory history (contents_of now)

-- The desk wasn't opened on the disk, for a reason that is true of the file, as no other is. What the file stood for
-- it stands for still, and so does what each crash left, or a crash before could leave that. A file that is refused
-- was synced, and nothing else.
pub record Unopened (why : OpenFault) (old new : DiskState) : Type 0 where
  pub is_true : IfSome old.past (λ past. IsExact (contents_of past) (Err why))
  pub still : Told old new StandsStill
  pub harmless : Told old new IsHarmless
  pub refused : Told old new (LeavesRefused why)
  pub rose : why ≡ fault.DiskFault → Rose old.faults new.faults
  pub no_fault : why ≢ fault.DiskFault → new.faults ≡ old.faults
  pub count : NeverFalls old.faults new.faults
