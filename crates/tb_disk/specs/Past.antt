-- What has happened to a disk, its contents, and what a crash may leave of them.
use Rattle.std.specs.Prelude.{◌≡◌, ◌⊎◌, ℕ, ◌+◌, ◌≤◌, List, length, take}
use Rattle.tb_disk.specs.Steps.{Step, Wrote, Tore, CutTo, Synced, over, Torn, MaybeCut}

-- the bytes that a disk began with, all of them on the disk, and the steps since, the latest first
pub data Past : Type 0 where
  Began : (first : List ℕ) → Past
  Then : (step : Step) (older : Past) → Past

-- the contents: what a read gives
abbrev pub contents_of : Past → List ℕ
contents_of (Began first) = first
contents_of (Then (Wrote place bytes) older) = over place bytes (contents_of older)
contents_of (Then (Tore place count left) older) = left
contents_of (Then (CutTo n) older) = take n (contents_of older)
contents_of (Then Synced older) = contents_of older

-- one of these images after a step
abbrev pub Follows : (List ℕ → List ℕ → Type 0) → (List ℕ → Type 0) → List ℕ → Type 0
Follows step images c = (d : List ℕ) × images d × step d c

-- the crash images: what a crash now may leave
abbrev pub MayLeave : Past → List ℕ → Type 0
MayLeave (Began first) c = c ≡ first
MayLeave (Then (Wrote place bytes) older) c = Follows (Torn place (length bytes) (place + length bytes))
    (MayLeave older) c
MayLeave (Then (Tore place count left) older) c = Follows (Torn place count (length left)) (MayLeave older) c
MayLeave (Then (CutTo n) older) c = Follows (MaybeCut n) (MayLeave older) c
MayLeave (Then Synced older) c = c ≡ contents_of older

-- the moment: how many steps there were
abbrev pub moment_of : Past → ℕ
moment_of (Began first) = 0
moment_of (Then step older) = moment_of older + 1

-- what a crash at some moment from t on, up to now, might have left
abbrev pub LeftSince : ℕ → Past → List ℕ → Type 0
LeftSince t (Began first) c = (t ≤ 0) × (c ≡ first)
LeftSince t (Then step older) c = ((t ≤ moment_of older + 1) × MayLeave (Then step older) c) ⊎ LeftSince t older c

-- a crash now leaves the contents and nothing else
abbrev pub IsSynced : Past → Type 0
IsSynced past = (c : List ℕ) → MayLeave past c → c ≡ contents_of past

-- each crash from the moment of `before` up to now leaves what has P
pub record Leaves (P : List ℕ → Type 0) (before now : Past) : Type 0 where
  pub later : moment_of before ≤ moment_of now
  pub each : (c : List ℕ) → LeftSince (moment_of before) now c → P c
  -- for a run that began earlier
  pub earlier : (t : ℕ) (c : List ℕ) → t ≤ moment_of before → LeftSince t now c → LeftSince t before c ⊎ P c

-- a past that calls can make: each writes from within the contents on, a failed one leaves what it may, and each cuts
-- within the contents
abbrev pub IsMade : Past → Type 0
IsMade (Began first) = Unit {0}
IsMade (Then (Wrote place bytes) older) = (place ≤ length (contents_of older)) × IsMade older
IsMade (Then (Tore place count left) older) = Torn place count (place + count) (contents_of older) left × IsMade older
IsMade (Then (CutTo n) older) = (n ≤ length (contents_of older)) × IsMade older
IsMade (Then Synced older) = IsMade older
