-- the awards of the lines so far are added
use Rattle.std.proofs.Common.{◌≡◌, ℕ, ◌<◌, length, take, get_or, vec_capacity}
use Rattle.tb_results.specs.Outcomes.{IsRaisedBy}
use Rattle.tb_results.proofs.amounts.add_awards.Given as goal

abbrev pub invariant-loop-place : goal.invariant-loop-place
invariant-loop-place l = record {
  awards : (k : ℕ) → k < length l.initial.amounts.items
      → IsRaisedBy l.cut (take l.place l.recognised.lines) k (get_or l.initial.amounts.items k 0)
      (get_or l.amounts.items k 0);
  count : length l.amounts.items ≡ length l.initial.amounts.items;
  room : vec_capacity l.amounts ≡ vec_capacity l.initial.amounts;
}
