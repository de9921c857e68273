-- What migrating a journal of the first version does to the spare.
use Rattle.std.specs.Prelude.{◌≡◌, ◌⊎◌, ℕ, List, length, Option, IfSome, Ok, Err}
use Rattle.tb_disk.specs.Steps.{Synced}
use Rattle.tb_disk.specs.Past.{Past, Then, contents_of, MayLeave, Leaves}
use Rattle.tb_journal.specs.Writing.{IsOldOrBlank}
use Rattle.tb_message.specs.declared.message.Entry.{Entry}
use Rattle.tb_message.specs.declared.version.Version.TheVariants.{First}
use Rattle.tb_history.specs.Legal.{IsLegal}
use Rattle.tb_desk.specs.declared.fault.MigrateFault.{MigrateFault}
use Rattle.tb_desk.specs.declared.fault.MigrateFault.TheVariants.{From, SpareFault}
use Rattle.tb_desk.specs.Replay.{IsExactIn, IsSealed}
use Rattle.tb_desk.specs.Stands.{StandsForHistory, StandsForHistoryIn}

-- in the first version the file stood for this history, which is legal
pub record StoodFor (history : List Entry) (file : List ℕ) : Type 0 where
  pub stands : StandsForHistoryIn First history file
  pub legal : IsLegal history

-- a file is the old one, or blank, or stands for a history for which the first disk stood
abbrev pub IsOldBlankOrMigrated : Option Past → List ℕ → List ℕ → Type 0
IsOldBlankOrMigrated first old file = IsOldOrBlank old file
    ⊎ ((history : List Entry) × IfSome first (λ past. StoodFor history (contents_of past))
    × StandsForHistory history file)

-- Nothing happened to the spare. Or each crash since its first sync left what it held then, or what is blank, or what
-- stands for the history for which the first disk stood.
abbrev pub LeavesMigrated : Option Past → Past → Past → Type 0
LeavesMigrated first before now =
    (now ≡ before) ⊎ Leaves (IsOldBlankOrMigrated first (contents_of before)) (Then Synced before) now

-- each crash now leaves the history
abbrev pub Keeps : List Entry → Past → Type 0
Keeps history past = (image : List ℕ) → MayLeave past image → StandsForHistory history image

-- The first disk stood for a legal history of so many entries, and no other answer is true of it. Each crash of the
-- spare leaves the history.
pub record Migrated (first spare : Option Past) (count : ℕ) : Type 0 where
  pub history : List Entry
  pub size : length history ≡ count
  pub stood : IfSome first (λ past. StoodFor history (contents_of past))
  pub exact : IfSome first (λ past. IsExactIn First (contents_of past) (Ok history))
  pub kept : IfSome spare (Keeps history)

-- a refusal of the first disk is true of it, and no other is
abbrev pub IsExactRefusal : Option Past → MigrateFault → Type 0
IsExactRefusal first (From why) = IfSome first (λ past. IsExactIn First (contents_of past) (Err why))
IsExactRefusal first SpareFault = Unit {0}

-- a journal of the first version has no seal, so that none is missing
abbrev pub HasNoSeal : MigrateFault → Type 0
HasNoSeal (From why) = IsSealed why
HasNoSeal SpareFault = Unit {0}
