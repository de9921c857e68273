-- What contracts see of a link, and what was read and written on it.
use Rattle.std.specs.Prelude.{◌≡◌, ℕ, List, ◌++◌}
use Rattle.tb_link.specs.Counts.{NeverFalls}
use Rattle.tb_link.specs.Sources.{SourceState, before_left}
use Rattle.tb_link.specs.Sinks.{SinkState, after_taken}

pub record LinkState : Type 0 where
  pub source : SourceState
  pub sink : SinkState

-- by the meanings of its two sides
abbrev pub link_of : {K : Type 0} → (K → SourceState) → (K → SinkState) → K → LinkState
link_of source sink link = record { source = source link; sink = sink link }

-- these bytes were read and these written
pub record Moved (old new : LinkState) (read written : List ℕ) : Type 0 where
  pub left : old.source.left ≡ before_left read new.source.left
  pub taken : new.sink.taken ≡ after_taken old.sink.taken written
  pub read_count : NeverFalls old.source.faults new.source.faults
  pub write_count : NeverFalls old.sink.faults new.sink.faults

-- the list begins with these
abbrev pub Begins : List ℕ → List ℕ → Type 0
Begins front whole = (rest : List ℕ) × (whole ≡ front ++ rest)
