-- Counts of faults, which every object that is handed in keeps.
use Rattle.std.specs.Prelude.{◌≡◌, ℕ, ◌+◌, ◌-◌, ◌^◌, ◌<◌, ◌≤◌, min, ◌⊎◌}

-- where a count stands still
abbrev pub last_count : ℕ
last_count = 2 ^ 64 - 1

-- one more, or the last value
abbrev pub counted : ℕ → ℕ
counted n = min (n + 1) last_count

-- the count has risen, or stands at its last value
abbrev pub Rose : ℕ → ℕ → Type 0
Rose old new = (old < new) ⊎ (new ≡ last_count)

-- what any call does to a count: it never falls, and never passes its last value
pub record NeverFalls (old new : ℕ) : Type 0 where
  pub never_falls : old ≤ new
  pub bounded : old ≤ last_count → new ≤ last_count
