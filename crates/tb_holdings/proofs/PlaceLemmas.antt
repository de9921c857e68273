-- A binary search finds a place.
use Rattle.std.proofs.Common.{◌≡◌, ℕ, ◌<◌, ◌≤◌, Bool, true, false, List, length, arith}
use Rattle.std.specs.List.Sorted.{IsPartitionPoint}
use Rattle.std.proofs.lemmas.List.{get_or-take, length-take}
use Rattle.tb_units.specs.Places.{IsPlace}

-- the point between what stands before and what doesn't is the place
pub IsPlace-found : {X : Type 0} (before : X → Bool) (xs : List X) (place : ℕ)
    → place ≤ length xs
    → IsPartitionPoint (λ x. before x ≡ true) (λ x. before x ≡ false) xs place
    → IsPlace before xs place
IsPlace-found before xs place within point = record {
  within = within;
  passed = λ k d short.
      let inside : k < place = omega (arith, length-take place xs) in
      let read = get_or-take place xs k d inside in
      rw read (point.0 k d (omega arith) inside);
  stops = λ d short. point.1 place d (omega arith) short;
}
