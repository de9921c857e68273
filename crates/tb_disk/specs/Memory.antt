-- The disk in memory, as contracts see it.
use Rattle.std.specs.Prelude.{◌≡◌, ◌⊎◌, ℕ, ◌+◌, [], Some, Contains}
use Rattle.tb_link.specs.Counts.{counted}
use Rattle.tb_disk.specs.Disks.{DiskState}
use Rattle.tb_disk.specs.Notes.{after_note}
use Rattle.tb_disk.specs.Logging.{recorded, taken_of, HasRoom}
use Rattle.tb_disk.specs.declared.note.Note.{Note}
use Rattle.tb_disk.specs.declared.memory_disk.MemoryDisk.{MemoryDisk}

-- it tells all
abbrev pub memory_disk : MemoryDisk → DiskState
memory_disk d = record { past = Some (recorded d.torn d.log); faults = d.faults.count }

-- the call that writes so many bytes fails: it is one of those that are to fail, or there is no room in the log
abbrev pub MustFail : MemoryDisk → ℕ → Type 0
MustFail d size = Contains d.fails.items d.calls ⊎ (HasRoom d.log size → ⊥)

-- what any call does, which writes so many bytes: it is counted, it takes its room in the log where there is as much,
-- and what the disk was made with stays
pub record CountsCall (size : ℕ) (old new : MemoryDisk) : Type 0 where
  pub calls : new.calls ≡ counted old.calls
  pub noted : HasRoom old.log size → taken_of new.log ≡ taken_of old.log + 32 + size
  pub full : (HasRoom old.log size → ⊥) → new.log ≡ old.log
  pub log_room : new.log.room ≡ old.log.room
  pub room : new.room ≡ old.room
  pub torn : new.torn ≡ old.torn
  pub fails : new.fails ≡ old.fails

-- the call that was noted as this succeeded
pub record Passes (note : Note) (old new : MemoryDisk) : Type 0 where
  pub past : recorded new.torn new.log ≡ after_note old.torn note [] (recorded old.torn old.log)
  pub no_fault : new.faults ≡ old.faults
