-- What the command `migrate` does to its output, its disk and the spare.
use Rattle.std.specs.Prelude.{◌≡◌, ◌≢◌, ℕ, List, [], ◌∷◌, ◌++◌, codes}
use Rattle.std.specs.Fmt.{decimal}
use Rattle.tb_units.specs.Bytes.{line_feed}
use Rattle.tb_link.specs.Counts.{Rose}
use Rattle.tb_link.specs.Sinks.{SinkState, Takes, FailsToTake}
use Rattle.tb_disk.specs.Disks.{DiskState}
use Rattle.tb_journal.specs.Journal.{Told, SyncsOrNot}
use Rattle.tb_desk.specs.Migration.{HasNoSeal, IsExactRefusal, LeavesMigrated, Migrated}
use Rattle.tb_desk.specs.declared.fault.MigrateFault.{MigrateFault}
use Rattle.tb_desk.specs.declared.fault.MigrateFault.TheVariants.{From, SpareFault}
use Rattle.tb_desk.specs.declared.fault.OpenFault.TheVariants as fault
use Rattle.tb_commands.specs.declared.command_endings.MigrateEnding.{MigrateEnding}
use Rattle.tb_commands.specs.declared.command_endings.MigrateEnding.TheVariants as ending

-- what it is handed: the output, the disk whose journal is of the first version, and the spare
pub record Moved : Type 0 where
  pub out : SinkState
  pub disk : DiskState
  pub spare : DiskState

-- the line that tells how many entries were migrated
abbrev pub migrated_text : ℕ → List ℕ
migrated_text entries = codes "migrated " ++ decimal entries ++ line_feed ∷ []

-- a fault of a disk rose with its count
abbrev pub RoseWith : MigrateFault → Moved → Moved → Type 0
RoseWith (From why) old new = why ≡ fault.DiskFault → Rose old.disk.faults new.disk.faults
RoseWith SpareFault old new = Rose old.spare.faults new.spare.faults

-- and no other fault was met
abbrev pub NoOtherFault : MigrateFault → Moved → Moved → Type 0
NoOtherFault (From why) old new =
    (why ≢ fault.DiskFault → new.disk.faults ≡ old.disk.faults) × (new.spare.faults ≡ old.spare.faults)
NoOtherFault SpareFault old new = new.disk.faults ≡ old.disk.faults

-- the disk stood in the first version for a legal history of so many entries, which each crash of the spare leaves, and
-- the output has taken the line that tells it, or a part of it; or it wasn't migrated, for a reason that is true of the
-- disk as no other is, and nothing was written on the output
abbrev pub TellsMigrated : MigrateEnding → Moved → Moved → Type 0
TellsMigrated ending.Done old new =
    (entries : ℕ) × Migrated old.disk.past new.spare.past entries × Takes old.out new.out (migrated_text entries)
TellsMigrated ending.WriteFault old new =
    (entries : ℕ) × Migrated old.disk.past new.spare.past entries
    × FailsToTake old.out new.out (migrated_text entries)
TellsMigrated (ending.Unmigrated why) old new =
    (new.out ≡ old.out) × IsExactRefusal old.disk.past why × RoseWith why old new × NoOtherFault why old new

-- it doesn't end for want of a seal, which no journal of the first version has
abbrev pub WantsNoSeal : MigrateEnding → Type 0
WantsNoSeal ending.Done = Unit {0}
WantsNoSeal ending.WriteFault = Unit {0}
WantsNoSeal (ending.Unmigrated why) = HasNoSeal why

-- How the command ends. The disk is as it was, and synced at most. At every moment since the spare's first sync a crash
-- left of it what it held then, or what no journal is opened from, or the history for which the disk stands.
pub record MigrateEnds (ended : MigrateEnding) (old new : Moved) : Type 0 where
  pub tells : TellsMigrated ended old new
  pub sealed : WantsNoSeal ended
  pub kept : Told old.disk new.disk SyncsOrNot
  pub spare : Told old.spare new.spare (LeavesMigrated old.disk.past)
