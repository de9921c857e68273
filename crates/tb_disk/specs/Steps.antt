-- What the calls of a disk do to its bytes, and what a crash before the next sync may make of them.
use Rattle.std.specs.Prelude.{◌≡◌, ℕ, ◌+◌, ◌≤◌, max, min, List, ◌++◌, length, take, drop}

-- these bytes from a place on, over what is there
abbrev pub over : ℕ → List ℕ → List ℕ → List ℕ
over place bytes old = take place old ++ (bytes ++ drop (place + length bytes) old)

-- what may become of a file by a write of so many bytes that isn't on the disk yet, or that failed: any bytes in its
-- range and past the old end, the same elsewhere, and at most as long as the old file or as `longest`
pub record Torn (place count longest : ℕ) (old new : List ℕ) : Type 0 where
  pub before : take place new ≡ take place old
  pub behind : drop (place + count) new ≡ drop (place + count) old
  pub no_shorter : length old ≤ length new
  pub no_longer : length new ≤ max (length old) longest

-- what may become of a file by a cut to n bytes that isn't on the disk yet: some length between, and any bytes past n
pub record MaybeCut (n : ℕ) (old new : List ℕ) : Type 0 where
  pub front : take n new ≡ take n old
  pub no_shorter : min n (length old) ≤ length new
  pub no_longer : length new ≤ length old

-- what a call did
pub data Step : Type 0 where
  -- wrote these bytes at a place
  Wrote : (place : ℕ) (bytes : List ℕ) → Step
  -- failed to write so many bytes at a place, and left these contents
  Tore : (place count : ℕ) (left : List ℕ) → Step
  -- cut the file to so many bytes
  CutTo : (n : ℕ) → Step
  -- put all of it on the disk
  Synced : Step
