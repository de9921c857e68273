-- What stands behind the closed gate of a journal.
use Rattle.std.specs.Prelude.{◌≡◌, ℕ, ◌+◌, ◌<◌, ◌≤◌, ◌^◌, List, ◌∷◌, ◌++◌, length}
use Rattle.tb_disk.specs.Past.{Past, contents_of, MayLeave}
use Rattle.tb_journal.specs.Frames.{IsPayload, framed}

-- an append writes at most so many bytes behind a gate byte: a head, the longest payload and a closed gate
abbrev pub most_behind : ℕ
most_behind = 32781

-- a file ends at most so far behind the gate at this place
abbrev pub EndsNear : ℕ → List ℕ → Type 0
EndsNear gate file = length file ≤ gate + 1 + most_behind

-- the file does, and so does what a crash now leaves
pub record ReachesLittle (gate : ℕ) (past : Past) : Type 0 where
  pub contents : EndsNear gate (contents_of past)
  pub images : (c : List ℕ) → MayLeave past c → EndsNear gate c

-- the bytes begin with the whole frame of this payload, with this ordinal
pub record BeginsWithFrame (ordinal : ℕ) (payload rest bytes : List ℕ) : Type 0 where
  pub size : IsPayload payload
  pub is : bytes ≡ framed ordinal payload ++ rest

-- The bytes behind a gate begin with the whole frames of these two payloads, which have this ordinal and the next one.
-- The gate byte between them may be any.
pub record HasTwoFrames (ordinal : ℕ) (first second bytes : List ℕ) : Type 0 where
  pub few : ordinal + 1 < 2 ^ 64
  pub gate : ℕ
  pub between : List ℕ
  pub more : List ℕ
  pub begins : BeginsWithFrame ordinal first (gate ∷ between) bytes
  pub goes_on : BeginsWithFrame (ordinal + 1) second more between
