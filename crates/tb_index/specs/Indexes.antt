-- What is kept of the keys of a list.
use Rattle.std.specs.Prelude.{◌≡◌, ℕ, suc, ◌<◌, Bool, cond, nat_lt, List, [], ◌∷◌, length, take, slice_index_or, Option, Some, None}
use Rattle.std.specs.List.{All, count_by, position}
use Rattle.std.specs.HashMap.{HashMap, get}
use Rattle.std.specs.Map.{count_at}
use Rattle.std.specs.Ordering.{is_eq}
use Rattle.std.specs.declared.cmp.Ordering.{Ordering}
use Rattle.tb_blocks.specs.Orders.{AreOrdered, HasKey}
use Rattle.tb_index.specs.declared.places.Place.{Place}

-- whether two keys are one as their order tells
abbrev pub tied : {K : Type 0} → (K → K → Ordering) → K → K → Bool
tied compare one other = is_eq (compare one other)

-- the first place of a key in a list of keys
abbrev pub first_of : {K : Type 0} → (K → K → Bool) → K → List K → Option ℕ
first_of same key keys = position (λ other. same other key) keys

-- how often a key stands in a list of keys
abbrev pub number_of : {K : Type 0} → (K → K → Bool) → K → List K → ℕ
number_of same key keys = count_by (λ other. same other key) keys

-- in the order of keys each key that is kept has its first place, and no other key stands in the list
pub record ArePlaces {K : Type 0} (compare : K → K → Ordering) (keys : List K) (places : List (Place K)) : Type 0 where
  pub order : AreOrdered compare (λ (place : Place K). place.key) places
  pub each : All (λ (place : Place K). first_of (tied compare) place.key keys ≡ Some place.place) places
  pub others : (key : K) → ¬ (HasKey compare (λ (place : Place K). place.key) key places)
      → first_of (tied compare) key keys ≡ None

-- so many elements of a list there are up to the last that passes a test, and none where none passes
abbrev pub end_by : {X : Type 0} → (X → Bool) → List X → ℕ
end_by p [] = 0
end_by p (x ∷ xs) = cond (nat_lt 0 (end_by p xs)) (suc (end_by p xs)) (cond (p x) 1 0)

-- so many keys of a list there are up to the last place of a key
abbrev pub end_of : {K : Type 0} → (K → K → Bool) → K → List K → ℕ
end_of same key keys = end_by (λ other. same other key) keys

-- a map has for each key its first place in a list of keys, and for no others any
abbrev pub AreFirsts : {K S : Type 0} → (K → K → Bool) → List K → HashMap K ℕ S → Type 0
AreFirsts {K} same keys firsts = (key : K) → get same firsts key ≡ first_of same key keys

-- it has for each key its number there, where a key that it lacks has none
abbrev pub AreCounts : {K S : Type 0} → (K → K → Bool) → List K → HashMap K ℕ S → Type 0
AreCounts {K} same keys counts = (key : K) → count_at (get same counts) key ≡ number_of same key keys

-- it has for each key its end there, where a key that it lacks has none
abbrev pub AreEnds : {K S : Type 0} → (K → K → Bool) → List K → HashMap K ℕ S → Type 0
AreEnds {K} same keys ends = (key : K) → count_at (get same ends) key ≡ end_of same key keys

-- for each place of a list of keys: the end of its key in what stands before it
pub record AreLinks {K : Type 0} (same : K → K → Bool) (keys : List K) (links : List ℕ) : Type 0 where
  pub long : length links ≡ length keys
  pub each : (k : ℕ) (key : K) (d : ℕ) → k < length keys
      → slice_index_or links k d ≡ end_of same (slice_index_or keys k key) (take k keys)
