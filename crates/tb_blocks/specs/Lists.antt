-- What a contract sees of a list in blocks, and what its blocks keep.
use Rattle.std.specs.Prelude.{◌≡◌, ℕ, ◌+◌, ◌*◌, ◌<◌, ◌≤◌, List, Option, Some, None, length, set, take, drop, min}
use Rattle.std.specs.Global.{Box}
use Rattle.tb_blocks.specs.Sizes.{block_size, half_size, most_blocks, progress_of}
use Rattle.tb_blocks.specs.Rows.{block_at, AreFilled}

-- its elements, and how many more may be added
pub record Listed (X : Type 0) : Type 0 where
  pub elements : List X
  pub spare : ℕ

-- a part of the list that begins at the place, and isn't empty
pub record IsRun {X : Type 0} (place : ℕ) (elements run : List X) : Type 0 where
  pub some : 0 < length run
  pub within : place + length run ≤ length elements
  pub is : run ≡ take (length run) (drop place elements)

-- a pace: how many adds are thought to lead to a split
pub record IsPace (pace : ℕ) : Type 0 where
  pub positive : 0 < pace
  pub most : pace ≤ block_size + 1

-- so many adds are sure, wherever they go: the first free block counts for `pace` of them and each further one for no
-- more than half a block, and what the blocks have come towards their next splits is taken off
abbrev pub IsSure : {X : Type 0} → ℕ → ℕ → List (List X) → ℕ → Type 0
IsSure pace spare blocks free = spare + 1 + progress_of pace blocks ≤ pace + min pace half_size * free

-- so many are sure once the block at the place has an element more
abbrev pub IsSureAfter : {X : Type 0} → ℕ → ℕ → ℕ → List (List X) → ℕ → Type 0
IsSureAfter {X} at pace spare blocks free =
    (block : List X) → length block ≡ length (block_at at blocks) + 1 → IsSure pace spare (set blocks at block) free

-- the blocks of a list serve so many adds
pub record IsReady {X : Type 0} (pace spare : ℕ) (blocks : List (List X)) (free : ℕ) : Type 0 where
  pub paced : IsPace pace
  pub sure : IsSure pace spare blocks free
  pub begun : 0 < length blocks
  pub filled : AreFilled blocks

-- there are places for so many blocks
pub record HasPlaces (blocks room blocks_room starts_room groups_room : ℕ) : Type 0 where
  pub used : blocks ≤ room
  pub of_blocks : room ≤ blocks_room
  pub of_starts : room ≤ starts_room
  pub of_groups : room ≤ groups_room

-- there is a place for each block that is free
pub record HasRoom (blocks free room free_room : ℕ) : Type 0 where
  pub all : blocks + free ≤ room
  pub back : blocks + free ≤ free_room
  pub few : blocks + free ≤ most_blocks

-- the list that stands in a vector, or else in blocks
abbrev pub seen : {X : Type 0} → List X → ℕ → Option (Box (Listed X)) → Listed X
seen few spare None = record { elements = few; spare = spare }
seen few spare (Some large) = large.value
