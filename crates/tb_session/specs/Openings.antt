-- The list of numbers that stands for a disk as the opening left it, and the whole fixed part of a room under the lock.
use Rattle.std.specs.Prelude.{ℕ, List, [], ◌∷◌, ◌++◌, Option, Some, None, is_some}
use Rattle.tb_disk.specs.Disks.{DiskState}
use Rattle.tb_disk.specs.Past.{Past, Began, Then}
use Rattle.tb_disk.specs.Steps.{Step, Wrote, Tore, CutTo, Synced}
use Rattle.tb_session.specs.Codes.{sized, fixed_code}

-- a step of a disk: its kind, and what it has to it
abbrev pub step_code : Step → List ℕ
step_code (Wrote place bytes) = 0 ∷ place ∷ sized bytes
step_code (Tore place count left) = 1 ∷ place ∷ count ∷ sized left
step_code (CutTo n) = 2 ∷ n ∷ []
step_code Synced = 3 ∷ []

-- what has happened to a disk: the steps, the latest first, and the bytes that it began with
abbrev pub past_code : Past → List ℕ
past_code (Began first) = 0 ∷ sized first
past_code (Then step older) = 1 ∷ (step_code step ++ past_code older)

-- the same, where the disk tells it
abbrev pub told_past : Option Past → List ℕ
told_past None = 0 ∷ []
told_past (Some past) = 1 ∷ past_code past

-- how many entries were recovered, and what had happened to the disk at the end of the opening
abbrev pub opening_code : ℕ → Option Past → List ℕ
opening_code recovered past = recovered ∷ told_past past

-- all that stays fixed under the lock: what calls are answered by, and the opening
abbrev pub lock_code : List ℕ → DiskState → ℕ → Option (List ℕ) → List ℕ
lock_code name opened recovered moments =
    fixed_code name (is_some opened.past) opened.faults moments ++ opening_code recovered opened.past
