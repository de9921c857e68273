-- The model of a disk in its own sentences: what may have become of a file since the last sync.
use Rattle.std.specs.Prelude.{◌≡◌, ◌⊎◌, ℕ, ◌+◌, ◌<◌, ◌≤◌, max, min, List, length, slice_index}
use Rattle.tb_disk.specs.Steps.{Wrote, Tore, CutTo, Synced}
use Rattle.tb_disk.specs.Past.{Past, Began, Then, contents_of}

-- the contents as the last sync left them
abbrev pub synced_contents : Past → List ℕ
synced_contents (Began first) = first
synced_contents (Then (Wrote place bytes) older) = synced_contents older
synced_contents (Then (Tore place count left) older) = synced_contents older
synced_contents (Then (CutTo n) older) = synced_contents older
synced_contents (Then Synced older) = contents_of older

-- the least length since the last sync
abbrev pub least_length : Past → ℕ
least_length (Began first) = length first
least_length (Then (Wrote place bytes) older) = min (least_length older)
    (length (contents_of (Then (Wrote place bytes) older)))
least_length (Then (Tore place count left) older) = min (least_length older) (length left)
least_length (Then (CutTo n) older) = min (least_length older) (length (contents_of (Then (CutTo n) older)))
least_length (Then Synced older) = length (contents_of older)

-- the greatest length since the last sync
abbrev pub greatest_length : Past → ℕ
greatest_length (Began first) = length first
greatest_length (Then (Wrote place bytes) older) = max (greatest_length older)
    (length (contents_of (Then (Wrote place bytes) older)))
greatest_length (Then (Tore place count left) older) = max (greatest_length older) (length left)
greatest_length (Then (CutTo n) older) = max (greatest_length older) (length (contents_of (Then (CutTo n) older)))
greatest_length (Then Synced older) = length (contents_of older)

-- the byte at this place is in a range that was written since the last sync, whether the write succeeded or failed
abbrev pub WasWritten : ℕ → Past → Type 0
WasWritten index (Began first) = ⊥
WasWritten index (Then (Wrote place bytes) older) = ((place ≤ index) × (index < place + length bytes))
    ⊎ WasWritten index older
WasWritten index (Then (Tore place count left) older) = ((place ≤ index) × (index < place + count))
    ⊎ WasWritten index older
WasWritten index (Then (CutTo n) older) = WasWritten index older
WasWritten index (Then Synced older) = ⊥

-- The length is any between the least and the greatest since the last sync. Each byte before the least length that
-- wasn't written since is as the last sync left it; any other may be any.
pub record MayBecome (past : Past) (image : List ℕ) : Type 0 where
  pub no_shorter : least_length past ≤ length image
  pub no_longer : length image ≤ greatest_length past
  pub kept : (index : ℕ) → index < least_length past → (WasWritten index past → ⊥)
      → slice_index image index ≡ slice_index (synced_contents past) index
