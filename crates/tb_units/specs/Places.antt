-- Places in lists that are in order, and an element more or less.
use Rattle.std.specs.Prelude.{◌≡◌, ℕ, ◌<◌, ◌≤◌, Bool, true, false, List, ◌∷◌, ◌++◌, length, take, slice_index_or, All}

-- the place of the first element that doesn't stand before
pub record IsPlace {X : Type 0} (before : X → Bool) (xs : List X) (place : ℕ) : Type 0 where
  pub within : place ≤ length xs
  pub passed : All (λ x. before x ≡ true) (take place xs)
  pub stops : (d : X) → place < length xs → before (slice_index_or xs place d) ≡ false

-- the longer list is the shorter one with this element put in
pub record HasOneMore {X : Type 0} (x : X) (shorter longer : List X) : Type 0 where
  pub front : List X
  pub back : List X
  pub without : shorter ≡ front ++ back
  pub whole : longer ≡ front ++ x ∷ back
