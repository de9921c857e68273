-- The order of keys.
use Rattle.std.specs.Prelude.{◌≡◌, ℕ, ◌<◌, ◌≤◌, Bool, true, false, List, length}
use Rattle.std.specs.List.{AllPairs, HoldsAt, insert, remove}
use Rattle.std.specs.List.Sorted.{IsPartitionedBy, IsPartitionPoint}
use Rattle.std.specs.Ordering.{is_lt}
use Rattle.std.specs.declared.cmp.Ordering.{Ordering}
use Rattle.std.specs.declared.cmp.Ordering.TheVariants.{Less, Equal}

-- the element stands before the key
abbrev pub is_below : {X K : Type 0} → (K → K → Ordering) → (X → K) → K → X → Bool
is_below compare key_of key element = is_lt (compare (key_of element) key)

-- the place parts the elements that stand before the key from the others, where those come first
abbrev pub PartsAt : {X K : Type 0} → (K → K → Ordering) → (X → K) → K → List X → ℕ → Type 0
PartsAt compare key_of key elements place =
    IsPartitionedBy (is_below compare key_of key) elements
    → IsPartitionPoint (λ element. is_below compare key_of key element ≡ true)
    (λ element. is_below compare key_of key element ≡ false)
    elements place

-- the elements before the place have smaller keys, and those from it on have not
abbrev pub IsPlaceOf : {X K : Type 0} → (K → K → Ordering) → (X → K) → K → List X → ℕ → Type 0
IsPlaceOf compare key_of key elements place =
    IsPartitionPoint (λ element. compare (key_of element) key ≡ Less)
    (λ element. ¬ (compare (key_of element) key ≡ Less)) elements place

-- the elements stand in the order of their keys, and no key stands twice
abbrev pub AreOrdered : {X K : Type 0} → (K → K → Ordering) → (X → K) → List X → Type 0
AreOrdered compare key_of elements = AllPairs (λ one other. compare (key_of one) (key_of other) ≡ Less) elements

-- the element at the place has the key
pub record HasKeyAt {X K : Type 0} (compare : K → K → Ordering) (key_of : X → K) (key : K) (elements : List X)
    (place : ℕ) : Type 0 where
  pub within : place < length elements
  pub same : HoldsAt (λ element. compare (key_of element) key ≡ Equal) elements place

-- an element has the key
abbrev pub HasKey : {X K : Type 0} → (K → K → Ordering) → (X → K) → K → List X → Type 0
HasKey compare key_of key elements = (place : ℕ) × HasKeyAt compare key_of key elements place

-- the new list is the old one with the element among it
pub record IsInserted {X : Type 0} (element : X) (old new : List X) : Type 0 where
  pub place : ℕ
  pub within : place ≤ length old
  pub is : new ≡ insert old place element

-- the new list is the old one without the element
pub record IsRemoved {X : Type 0} (element : X) (old new : List X) : Type 0 where
  pub place : ℕ
  pub within : place < length old
  pub there : HoldsAt (λ other. other ≡ element) old place
  pub is : new ≡ remove old place
