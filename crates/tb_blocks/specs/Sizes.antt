-- How large a block is, and how many blocks a number of adds can need.
use Rattle.std.specs.Prelude.{ℕ, ◌+◌, ◌-◌, List, length, sum_by}

-- the most elements of a block
abbrev pub block_size : ℕ
block_size = 256

-- the elements that a full block keeps when it is split
abbrev pub half_size : ℕ
half_size = 128

-- the blocks of a group
abbrev pub group_size : ℕ
group_size = 32

-- the most blocks of a list
abbrev pub most_blocks : ℕ
most_blocks = 4294967296

-- how far a block has come towards its next split, where one that is empty of progress needs so many adds
abbrev pub progress : {X : Type 0} → ℕ → List X → ℕ
progress pace block = pace - (block_size + 1 - length block)

-- that of all blocks
abbrev pub progress_of : {X : Type 0} → ℕ → List (List X) → ℕ
progress_of pace blocks = sum_by (progress pace) blocks

-- how many blocks are full: at a pace of two only those have come anywhere
abbrev pub full_of : {X : Type 0} → List (List X) → ℕ
full_of blocks = progress_of 2 blocks
