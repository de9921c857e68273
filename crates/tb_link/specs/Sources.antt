-- What contracts see of a source, and what a read does to it.
use Rattle.std.specs.Prelude.{◌≡◌, ℕ, ◌≤◌, List, [], ◌++◌, length, take, ◌↔◌, Option, None, IfSome}
use Rattle.std.specs.Option.{option_map}
use Rattle.tb_link.specs.Counts.{counted, Rose, NeverFalls}

-- the bytes left, where the source tells them, its count of faults, and how many reads there were
pub record SourceState : Type 0 where
  pub left : Option (List ℕ)
  pub faults : ℕ
  pub reads : ℕ

-- of what is no source
abbrev pub no_source : SourceState
no_source = record { left = None; faults = 0; reads = 0 }

-- these bytes before those left, where they are told
abbrev pub before_left : List ℕ → Option (List ℕ) → Option (List ℕ)
before_left bytes left = option_map (λ rest. bytes ++ rest) left

-- a read of n bytes into a buffer: the next of those left; none exactly at the end of the input
pub record Gives (old new : SourceState) (into : List ℕ) (n : ℕ) : Type 0 where
  pub within : n ≤ length into
  pub next : old.left ≡ before_left (take n into) new.left
  pub at_end : IfSome old.left (λ left. (n ≡ 0) ↔ (left ≡ []))
  pub no_fault : new.faults ≡ old.faults
  pub one_read : new.reads ≡ counted old.reads

-- a read that failed has taken nothing, and the count has risen
pub record FailsToGive (old new : SourceState) : Type 0 where
  pub left : new.left ≡ old.left
  pub rose : Rose old.faults new.faults
  pub count : NeverFalls old.faults new.faults
  pub one_read : new.reads ≡ counted old.reads

-- what a call of another kind leaves of a source
pub record LeavesSource (old new : SourceState) : Type 0 where
  pub left : new.left ≡ old.left
  pub count : NeverFalls old.faults new.faults
  pub no_read : new.reads ≡ old.reads
