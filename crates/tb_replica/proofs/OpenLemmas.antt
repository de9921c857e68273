-- An opening that had no memory, and did nothing to the disk.
use Rattle.std.proofs.Common.{inl, refl}
use Rattle.std.specs.Prelude.{Option, Some, None, Err, IfSome}
use Rattle.tb_disk.specs.Past.{Past, contents_of}
use Rattle.tb_disk.specs.Disks.{DiskState}
use Rattle.tb_journal.specs.Journal.{Told}
use Rattle.tb_journal.specs.Opening.{IsHarmless}
use Rattle.tb_journal.proofs.OpeningLemmas.{harmless_start}
use Rattle.tb_desk.specs.declared.fault.OpenFault.TheVariants as unopened
use Rattle.tb_desk.specs.Replay.{IsExact, LeavesRefused}

-- what holds of a disk to which nothing was done
told_nothing : (P : Past → Past → Type 0) (disk : DiskState) → ((past : Past) → P past past) → Told disk disk P
told_nothing P disk here = record {
  silent = λ none. none;
  told = λ before is. (before, is, here before);
}

-- no more than what an opening does
pub LeavesRefused-nothing : (disk : DiskState) → Told disk disk (LeavesRefused unopened.OutOfMemory)
LeavesRefused-nothing disk =
    told_nothing (LeavesRefused unopened.OutOfMemory) disk
    (λ past. record { kept = λ long. inl refl; made = λ short. inl refl })

-- no crash of it is harmful
pub IsHarmless-nothing : (disk : DiskState) → Told disk disk IsHarmless
IsHarmless-nothing disk = told_nothing IsHarmless disk harmless_start

-- want of memory says nothing of the file
pub IsExact-memory : (told : Option Past) → IfSome told (λ past. IsExact (contents_of past) (Err unopened.OutOfMemory))
IsExact-memory None = tt
IsExact-memory (Some past) = record {
  is_true = tt;
  only = λ other is speaks memory. absurd (memory.1 refl);
}
