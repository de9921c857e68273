-- What contracts see of a sink, and what a write does to it.
use Rattle.std.specs.Prelude.{◌≡◌, ℕ, List, ◌++◌, Option, None}
use Rattle.std.specs.Option.{option_map}
use Rattle.tb_link.specs.Counts.{Rose, NeverFalls}

-- the bytes taken, where the sink tells them, and its count of faults
pub record SinkState : Type 0 where
  pub taken : Option (List ℕ)
  pub faults : ℕ

-- of what is no sink
abbrev pub no_sink : SinkState
no_sink = record { taken = None; faults = 0 }

-- these bytes behind those taken, where they are told
abbrev pub after_taken : Option (List ℕ) → List ℕ → Option (List ℕ)
after_taken taken bytes = option_map (λ front. front ++ bytes) taken

-- a write takes the piece, all of it
pub record Takes (old new : SinkState) (bytes : List ℕ) : Type 0 where
  pub taken : new.taken ≡ after_taken old.taken bytes
  pub no_fault : new.faults ≡ old.faults

-- the sink has taken a prefix of these bytes
abbrev pub TakesPrefix : SinkState → SinkState → List ℕ → Type 0
TakesPrefix old new bytes = (front rest : List ℕ) × (bytes ≡ front ++ rest) × (new.taken ≡ after_taken old.taken front)

-- a write that failed has taken a prefix of the piece, and the count has risen
pub record FailsToTake (old new : SinkState) (bytes : List ℕ) : Type 0 where
  pub prefix : TakesPrefix old new bytes
  pub rose : Rose old.faults new.faults
  pub count : NeverFalls old.faults new.faults

-- what a call of another kind leaves of a sink
pub record LeavesSink (old new : SinkState) : Type 0 where
  pub taken : new.taken ≡ old.taken
  pub count : NeverFalls old.faults new.faults
