-- Nothing is kept for the places so far.
use Rattle.std.proofs.Common.{◌≡◌, ℕ, ◌≤◌, length, slice_index_or, None}
use Rattle.tb_replica.proofs.window.Window.new.Given as goal

abbrev pub invariant-loop : goal.invariant-loop
invariant-loop g l = record {
  count : l.places.len ≡ l.counter;
  length_is : length l.places.items ≡ l.counter;
  room : 1023 ≤ l.places.cap;
  nothing : (index : ℕ) → slice_index_or l.places.items index None ≡ None;
}
