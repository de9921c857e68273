-- A real file, and no file, as contracts see them.
use Rattle.std.specs.Prelude.{◌≡◌, None}
use Rattle.tb_link.specs.Counts.{counted}
use Rattle.tb_disk.specs.Disks.{DiskState}
use Rattle.tb_disk.specs.declared.file_disk.FileDisk.{FileDisk}
use Rattle.tb_disk.specs.declared.file_disk.LastSync.TheVariants as last_sync
use Rattle.tb_disk.specs.declared.no_disk.NoDisk.{NoDisk}

-- a real file tells nothing but its count of faults
abbrev pub file_disk : FileDisk → DiskState
file_disk d = record { past = None; faults = d.faults.count }

-- its last sync failed
abbrev pub HasFailed : FileDisk → Type 0
HasFailed d = d.last_sync ≡ last_sync.Failed

-- it wasn't synced yet, and the device didn't take what memory had of it
abbrev pub IsOwed : FileDisk → Type 0
IsOwed d = d.last_sync ≡ last_sync.Owed

-- it isn't known by which name it is found
abbrev pub HasNoName : FileDisk → Type 0
HasNoName d = d.file.name ≡ None

-- it was opened anew, once more than before
abbrev pub IsOpenedAnew : FileDisk → FileDisk → Type 0
IsOpenedAnew old new = new.file.openings ≡ counted old.file.openings

-- it has the same last sync, and wasn't opened anew
pub record KeepsSync (old new : FileDisk) : Type 0 where
  pub last : new.last_sync ≡ old.last_sync
  pub openings : new.file.openings ≡ old.file.openings

-- nor does a disk without a file tell more
abbrev pub no_disk : NoDisk → DiskState
no_disk d = record { past = None; faults = d.faults.count }
