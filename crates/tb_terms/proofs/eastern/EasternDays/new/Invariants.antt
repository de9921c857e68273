use Rattle.std.proofs.Common.{◌≡◌, ℕ, ◌+◌, ◌-◌, ◌<◌, slice_index, vec_len, List}
use Rattle.tb_terms.specs.Eastern.{start_of}
use Rattle.tb_terms.proofs.eastern.EasternDays.new.Given as goal

-- the days so far are in the table
pub record IsBegun (starts : List ℕ) (count days : ℕ) : Type 0 where
  pub long : count ≡ days
  pub each : (place : ℕ) → place < days → slice_index starts place ≡ start_of (10957 + place)

abbrev pub invariant-loop-number : goal.invariant-loop-number
invariant-loop-number l = IsBegun l.starts.items (vec_len l.starts) (l.number - 10957)
