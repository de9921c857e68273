-- How many elements stand before a block.
use Rattle.std.proofs.Common.{◌≡◌, ℕ, zero, suc, ◌+◌, ◌*◌, ◌<◌, ◌≤◌, List, [], ◌∷◌, length, set, take, get_or, sum_by, refl, ap, sym, ◌∙◌, arith}
use Rattle.std.specs.List.{insert, remove}
use Rattle.std.proofs.Math.Seq.{take-set-lt}
use Rattle.std.proofs.lemmas.List.{take-set-le, length-take, get_or-take, take_all}
use Rattle.std.proofs.lemmas.List.Sums.{sum_by-cons, sum_by_more, sum_by-take-le, sum_by-set}
use Rattle.tb_blocks.specs.Sizes.{block_size}
use Rattle.tb_blocks.specs.Rows.{joined, before}
use Rattle.tb_blocks.proofs.JoinedLemmas.{length-joined}

-- one block more
pub before-more : {X : Type 0} (blocks : List (List X)) (at : ℕ) → at < length blocks
    → before (at + 1) blocks ≡ before at blocks + length (get_or blocks at [])
before-more blocks at some = sum_by_more (λ b. length b) blocks at [] some

-- what stands before a block is no more than all
pub before-le : {X : Type 0} (blocks : List (List X)) (at : ℕ) → before at blocks ≤ length (joined blocks)
before-le blocks at = omega (arith, length-joined blocks, sum_by-take-le (λ b. length b) blocks at)

-- what stands before the end is all
pub before-end : {X : Type 0} (blocks : List (List X)) (at : ℕ) → length blocks ≤ at
    → before at blocks ≡ length (joined blocks)
before-end blocks at past = ap (λ some. sum_by (λ b. length b) some) (take_all at blocks past)
    ∙ sym (length-joined blocks)

-- the elements of small blocks
pub joined-small : {X : Type 0} (blocks : List (List X)) → ((k : ℕ) → length (get_or blocks k []) ≤ block_size)
    → length (joined blocks) ≤ block_size * length blocks
joined-small [] small = omega arith
joined-small (block ∷ blocks) small =
    omega (
      arith,
      small zero,
      joined-small blocks (λ k. small (suc k)),
      length-joined (block ∷ blocks),
      length-joined blocks,
      sum_by-cons (λ b. length b) block blocks,
    )

-- a changed block counts only for those behind it
pub before-set_below : {X : Type 0} (blocks : List (List X)) (at : ℕ) (block : List X) (k : ℕ) → k ≤ at
    → before k (set blocks at block) ≡ before k blocks
before-set_below blocks at block k low = ap (λ some. sum_by (λ b. length b) some) (take-set-le k blocks at block low)

-- and for those behind it
pub before-set_above : {X : Type 0} (blocks : List (List X)) (at : ℕ) (block : List X) (k : ℕ) → at < k
    → at < length blocks
    → before k (set blocks at block) + length (get_or blocks at []) ≡ before k blocks + length block
before-set_above blocks at block k high some =
    let within : at < length (take k blocks) = omega (arith, length-take k blocks) in
    let old : get_or (take k blocks) at [] ≡ get_or blocks at [] = get_or-take k blocks at [] high in
    rw (take-set-lt k blocks at block high, sym old) (sum_by-set (λ b. length b) (take k blocks) at block [] within)

-- a new block counts only for those behind it
pub before-insert_below : {X : Type 0} (blocks : List (List X)) (at : ℕ) (block : List X) (k : ℕ) → at ≤ length blocks
    → k ≤ at → before k (insert blocks at block) ≡ before k blocks
before-insert_below blocks at block zero within low = refl
before-insert_below blocks zero block (suc k) within low = absurd (omega arith)
before-insert_below [] (suc at) block (suc k) within low = absurd (omega arith)
before-insert_below (first ∷ blocks) (suc at) block (suc k) within low =
    omega (
      arith,
      before-insert_below blocks at block k (omega arith) (omega arith),
      sum_by-cons (λ b. length b) first (take k blocks),
      sum_by-cons (λ b. length b) first (take k (insert blocks at block)),
    )

-- and for those behind it
pub before-insert_above : {X : Type 0} (blocks : List (List X)) (at : ℕ) (block : List X) (k : ℕ) → at ≤ length blocks
    → at ≤ k → before (suc k) (insert blocks at block) ≡ before k blocks + length block
before-insert_above blocks zero block k within high = omega (arith, sum_by-cons (λ b. length b) block (take k blocks))
before-insert_above [] (suc at) block k within high = absurd (omega arith)
before-insert_above (first ∷ blocks) (suc at) block zero within high = absurd (omega arith)
before-insert_above (first ∷ blocks) (suc at) block (suc k) within high =
    omega (
      arith,
      before-insert_above blocks at block k (omega arith) (omega arith),
      sum_by-cons (λ b. length b) first (take k blocks),
      sum_by-cons (λ b. length b) first (take (suc k) (insert blocks at block)),
    )

-- a block that is taken out counted only for those behind it
pub before-remove_below : {X : Type 0} (blocks : List (List X)) (at k : ℕ) → k ≤ at
    → before k (remove blocks at) ≡ before k blocks
before-remove_below blocks at zero low = refl
before-remove_below blocks zero (suc k) low = absurd (omega arith)
before-remove_below [] (suc at) (suc k) low = refl
before-remove_below (first ∷ blocks) (suc at) (suc k) low =
    omega (
      arith,
      before-remove_below blocks at k (omega arith),
      sum_by-cons (λ b. length b) first (take k blocks),
      sum_by-cons (λ b. length b) first (take k (remove blocks at)),
    )

-- no fewer elements stand before a later block
pub before-mono : {X : Type 0} (blocks : List (List X)) (at later : ℕ) → at ≤ later
    → before at blocks ≤ before later blocks
before-mono blocks zero later below = omega arith
before-mono blocks (suc at) zero below = absurd (omega arith)
before-mono [] (suc at) (suc later) below = omega arith
before-mono (block ∷ blocks) (suc at) (suc later) below =
    omega (
      arith,
      before-mono blocks at later (omega arith),
      sum_by-cons (λ b. length b) block (take at blocks),
      sum_by-cons (λ b. length b) block (take later blocks),
    )
