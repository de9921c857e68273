-- What contracts see of a disk, and what each call does to it.
use Rattle.std.specs.Prelude.{◌≡◌, ◌⊎◌, ℕ, ◌+◌, ◌-◌, ◌≤◌, min, List, ◌++◌, length, take, drop, Option, IfSome}
use Rattle.std.specs.Option.{option_map}
use Rattle.tb_link.specs.Counts.{Rose, NeverFalls}
use Rattle.tb_disk.specs.Steps.{Step, Tore, CutTo, Torn}
use Rattle.tb_disk.specs.Past.{Past, Then, contents_of}

-- what has happened to it, where it tells that, and its count of faults
pub record DiskState : Type 0 where
  pub past : Option Past
  pub faults : ℕ

-- one step more, where it is told
abbrev pub after_step : Step → Option Past → Option Past
after_step step past = option_map (λ older. Then step older) past

-- a call that took this step
pub record Takes (step : Step) (old new : DiskState) : Type 0 where
  pub past : new.past ≡ after_step step old.past
  pub no_fault : new.faults ≡ old.faults

-- a call that leaves the bytes as they were
pub record LeavesDisk (old new : DiskState) : Type 0 where
  pub past : new.past ≡ old.past
  pub no_fault : new.faults ≡ old.faults

-- a call that failed and left the bytes as they were
pub record Fails (old new : DiskState) : Type 0 where
  pub past : new.past ≡ old.past
  pub rose : Rose old.faults new.faults
  pub count : NeverFalls old.faults new.faults

-- the length is n
abbrev pub HasLength : DiskState → ℕ → Type 0
HasLength disk n = IfSome disk.past (λ past. n ≡ length (contents_of past))

-- the contents are at least so long
abbrev pub Reaches : DiskState → ℕ → Type 0
Reaches disk place = IfSome disk.past (λ past. place ≤ length (contents_of past))

-- a read into a buffer gave n bytes: as many as fit and exist
pub record Gives (old : DiskState) (place : ℕ) (buffer into : List ℕ) (n : ℕ) : Type 0 where
  pub within : n ≤ length buffer
  pub count : IfSome old.past (λ past. n ≡ min (length buffer) (length (contents_of past) - place))
  pub bytes : IfSome old.past (λ past. into ≡ take n (drop place (contents_of past)) ++ drop n buffer)

-- a failed write may have left any bytes in its range, and a length between the old and the wanted one
abbrev pub LeavesTorn : ℕ → ℕ → Option Past → Option Past → Type 0
LeavesTorn place size old new = (left : List ℕ)
    × IfSome old (λ past. Torn place size (place + size) (contents_of past) left)
    × (new ≡ after_step (Tore place size left) old)

-- a write of so many bytes that failed
pub record FailsToWrite (place size : ℕ) (old new : DiskState) : Type 0 where
  pub past : (new.past ≡ old.past) ⊎ LeavesTorn place size old.past new.past
  pub rose : Rose old.faults new.faults
  pub count : NeverFalls old.faults new.faults

-- a cut that failed: it left the old or the wanted length
pub record FailsToCut (n : ℕ) (old new : DiskState) : Type 0 where
  pub past : (new.past ≡ old.past) ⊎ (new.past ≡ after_step (CutTo n) old.past)
  pub rose : Rose old.faults new.faults
  pub count : NeverFalls old.faults new.faults
