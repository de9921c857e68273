-- A list that is kept in blocks.
use Rattle.std.specs.Prelude.{◌≡◌, ℕ, ◌+◌, ◌-◌, ◌*◌, ◌/◌, ◌<◌, ◌≤◌, List, [], length, set, take, drop, sum_by, slice_index, slice_index_or}
use Rattle.std.specs.List.{flat_map, insert, remove}
use Rattle.tb_blocks.specs.Sizes.{block_size, half_size, group_size, most_blocks}

-- the blocks one after another
abbrev pub joined : {X : Type 0} → List (List X) → List X
joined blocks = flat_map (λ block. block) blocks

-- how many elements stand before the block at the place
abbrev pub before : {X : Type 0} → ℕ → List (List X) → ℕ
before at blocks = sum_by (λ block. length block) (take at blocks)

-- the block at the place
abbrev pub block_at : {X : Type 0} → ℕ → List (List X) → List X
block_at at blocks = slice_index_or blocks at []

-- the blocks where the one at the place is in two halves
abbrev pub halves : {X : Type 0} → List (List X) → ℕ → List (List X)
halves blocks at =
    insert (set blocks at (take half_size (block_at at blocks))) (at + 1) (drop half_size (block_at at blocks))

-- the blocks where one has an element more at the place of the list, has lost the one there, or has another there
abbrev pub put_in : {X : Type 0} → ℕ → ℕ → X → List (List X) → List (List X)
put_in at place element blocks = set blocks at (insert (block_at at blocks) (place - before at blocks) element)

abbrev pub taken_from : {X : Type 0} → ℕ → ℕ → List (List X) → List (List X)
taken_from at place blocks = set blocks at (remove (block_at at blocks) (place - before at blocks))

abbrev pub replaced_in : {X : Type 0} → ℕ → ℕ → X → List (List X) → List (List X)
replaced_in at place element blocks = set blocks at (set (block_at at blocks) (place - before at blocks) element)

-- the number of elements before each group of blocks, and before each block within its group
pub record AreCounts {X : Type 0} (groups starts : List ℕ) (blocks : List (List X)) : Type 0 where
  pub one_each : length starts ≡ length blocks
  pub grouped : length blocks ≤ group_size * length groups
  pub by_group : (k : ℕ) → k < length groups → slice_index groups k ≡ before (group_size * k) blocks
  pub by_block : (k : ℕ) → k < length blocks
      → before (group_size * (k / group_size)) blocks + slice_index starts k ≡ before k blocks

-- so it is of the blocks before a group, and so many elements stand before it
pub record AreCountedTo {X : Type 0} (group total : ℕ) (groups starts : List ℕ) (blocks : List (List X)) : Type 0 where
  pub within : group_size * group ≤ length blocks
  pub groups_told : group ≤ length groups
  pub starts_told : group_size * group ≤ length starts
  pub by_group : (k : ℕ) → k < group → slice_index groups k ≡ before (group_size * k) blocks
  pub by_block : (k : ℕ) → k < group_size * group
      → before (group_size * (k / group_size)) blocks + slice_index starts k ≡ before k blocks
  pub total_is : total ≡ before (group_size * group) blocks

-- the new numbers are one more from one place on and before another
pub record IsRaised (from to : ℕ) (old new : List ℕ) : Type 0 where
  pub same : length new ≡ length old
  pub low : (k : ℕ) → k < from → slice_index new k ≡ slice_index old k
  pub mid : (k : ℕ) → from ≤ k → k < to → slice_index new k ≡ slice_index old k + 1
  pub high : (k : ℕ) → from ≤ k → to ≤ k → slice_index new k ≡ slice_index old k

-- the blocks of a list, and the number of elements before each
pub record AreRows {X : Type 0} (groups starts : List ℕ) (blocks : List (List X)) : Type 0 where
  pub counted : AreCounts groups starts blocks
  pub small : (k : ℕ) → length (block_at k blocks) ≤ block_size
  pub few : length blocks ≤ most_blocks

-- no block is empty but an only one
abbrev pub AreFilled : {X : Type 0} → List (List X) → Type 0
AreFilled blocks = (k : ℕ) → k < length blocks → 1 < length blocks → 0 < length (block_at k blocks)

-- the blocks hold the same list, and the block at the place has room for an element there
pub record IsWay {X : Type 0} (place at : ℕ) (old new : List (List X)) : Type 0 where
  pub same : joined new ≡ joined old
  pub there : at < length new
  pub low : before at new ≤ place
  pub high : place ≤ before (at + 1) new
  pub room : length (block_at at new) < block_size
