-- How many adds are sure, where blocks change.
use Rattle.std.proofs.Common.{◌≡◌, ℕ, zero, suc, ◌+◌, ◌*◌, ◌<◌, ◌≤◌, List, [], ◌∷◌, length, set, take, drop, get_or, min, refl, sym, arith}
use Rattle.std.specs.List.{insert, remove}
use Rattle.std.proofs.Math.Nat.{mul-le-mul_left}
use Rattle.std.proofs.lemmas.List.Edits.{length-insert}
use Rattle.std.proofs.lemmas.List.Sums.{sum_by-set, sum_by-insert, sum_by-remove, get_or-le-sum_by, sum_by-cons, sum_by-le-sum_by}
use Rattle.tb_blocks.specs.Sizes.{block_size, half_size, progress, progress_of}
use Rattle.tb_blocks.specs.Lists.{IsSure, IsPace}
use Rattle.tb_blocks.specs.Rows.{halves}
use Rattle.tb_blocks.proofs.RowsLemmas.{length-halves, lower-half, upper-half}

-- an add to a block takes one from what is sure
pub sure-put : {X : Type 0} (pace spare : ℕ) (blocks : List (List X)) (at : ℕ) (block : List X) (free : ℕ)
    → at < length blocks → IsSure pace (spare + 1) blocks free
    → length block ≡ length (get_or blocks at []) + 1 → IsSure pace spare (set blocks at block) free
sure-put pace spare blocks at block free some sure more =
    omega (arith, sure, more, sum_by-set (λ b. progress pace b) blocks at block [] some)

-- a smaller block takes nothing from what is sure
pub sure-take : {X : Type 0} (pace spare : ℕ) (blocks : List (List X)) (at : ℕ) (block : List X) (free : ℕ)
    → at < length blocks → IsSure pace spare blocks free
    → length block ≤ length (get_or blocks at []) → IsSure pace spare (set blocks at block) free
sure-take pace spare blocks at block free some sure less =
    omega (arith, sure, less, sum_by-set (λ b. progress pace b) blocks at block [] some)

-- more free blocks make no fewer adds sure
pub sure-more : {X : Type 0} (pace spare : ℕ) (blocks : List (List X)) (free more : ℕ) → free ≤ more
    → IsSure pace spare blocks free → IsSure pace spare blocks more
sure-more pace spare blocks free more grown sure = omega (arith, sure, mul-le-mul_left (min pace half_size) grown)

-- nor does an empty block that is given back
pub sure-give_up : {X : Type 0} (pace spare : ℕ) (blocks : List (List X)) (at free : ℕ) → at < length blocks
    → IsSure pace spare blocks free → IsSure pace spare (remove blocks at) (free + 1)
sure-give_up pace spare blocks at free some sure =
    omega (
      arith,
      sure,
      sum_by-remove (λ b. progress pace b) blocks at [] some,
      mul-le-mul_left (min pace half_size) (let h : free ≤ free + 1 = omega arith in h),
    )

-- a full block and no free one leave no add sure
sure-free_at : {X : Type 0} (pace spare : ℕ) (blocks : List (List X)) (at free : ℕ) → 0 < pace → 0 < spare
    → IsSure pace spare blocks free → at < length blocks → length (get_or blocks at []) ≡ block_size → 0 < free
sure-free_at pace spare blocks at zero positive some sure within full =
    absurd (omega (arith, sure, full, get_or-le-sum_by (λ b. progress pace b) blocks at [] within))
sure-free_at pace spare blocks at (suc free) positive some sure within full = omega arith

-- where an add is sure and a block is full, there is a free one
pub sure-free : {X : Type 0} (pace spare : ℕ) (blocks : List (List X)) (at free : ℕ) → IsPace pace → 0 < spare
    → IsSure pace spare blocks free → at < length blocks → length (get_or blocks at []) ≡ block_size → 0 < free
sure-free pace spare blocks at free paced some sure within full =
    sure-free_at pace spare blocks at free paced.positive some sure within full

-- at a slower pace the blocks have come less far, and a full one by the difference
pub progress-slow : {X : Type 0} (slow pace : ℕ) (blocks : List (List X)) → slow ≤ pace
    → progress_of slow blocks ≤ progress_of pace blocks
progress-slow slow pace blocks slower =
    sum_by-le-sum_by (λ b. progress slow b) (λ b. progress pace b) blocks (λ b. omega arith)

-- a full block has come less far by the whole difference
progress-gap : {X : Type 0} (slow pace : ℕ) (blocks : List (List X)) (at : ℕ) → 0 < slow → slow ≤ pace
    → at < length blocks → length (get_or blocks at []) ≡ block_size
    → progress_of slow blocks + pace ≤ progress_of pace blocks + slow
progress-gap slow pace [] at positive slower some full = absurd (omega arith)
progress-gap slow pace (block ∷ blocks) zero positive slower some full =
    omega (
      arith,
      full,
      progress-slow slow pace blocks slower,
      sum_by-cons (λ b. progress slow b) block blocks,
      sum_by-cons (λ b. progress pace b) block blocks,
    )
progress-gap slow pace (block ∷ blocks) (suc at) positive slower some full =
    omega (
      arith,
      progress-gap slow pace blocks at positive slower (omega arith) full,
      sum_by-cons (λ b. progress slow b) block blocks,
      sum_by-cons (λ b. progress pace b) block blocks,
    )

-- a split and an add to one of the halves take one from what is sure, at no more than half a block for each split
pub sure-split : {X : Type 0} (pace spare : ℕ) (blocks : List (List X)) (at side : ℕ) (block : List X) (free rest : ℕ)
    → IsPace pace → at < length blocks → length (get_or blocks at []) ≡ block_size
    → rest + 1 ≡ free → IsSure pace (spare + 1) blocks free → side < length blocks + 1
    → length (get_or (halves blocks at) side []) ≡ half_size
    → length block ≡ length (get_or (halves blocks at) side []) + 1
    → IsSure (min pace half_size) spare (set (halves blocks at) side block) rest
sure-split pace spare blocks at side block free rest paced some full fewer sure within half more =
    let lower = take half_size (get_or blocks at []) in
    let upper = drop half_size (get_or blocks at []) in
    let slow = min pace half_size in
    let same : min slow half_size ≡ slow = omega arith in
    let positive : 0 < slow = omega (arith, paced.positive) in
    let product : slow * free ≡ slow * rest + slow = rw (sym fewer) (grind arith) in
    rw same (omega (
      arith,
      product,
      sure,
      full,
      half,
      more,
      progress-gap slow pace blocks at positive (let h : slow ≤ pace = omega arith in h) some full,
      lower-half (get_or blocks at []) full,
      upper-half (get_or blocks at []) full,
      sum_by-set (λ b. progress slow b) blocks at lower [] some,
      sum_by-insert (λ b. progress slow b) (set blocks at lower) (at + 1) upper,
      sum_by-set (λ b. progress slow b) (halves blocks at) side block []
          (omega (arith, within, length-halves blocks at some)),
    ))

-- a new block at an end takes one from what is sure, where the test says so
pub sure-open : {X : Type 0} (pace spare : ℕ) (blocks : List (List X)) (at : ℕ) (block : List X) (free rest : ℕ)
    → pace ≤ half_size → at ≤ length blocks → rest + 1 ≡ free
    → spare + 1 + progress_of pace blocks ≤ pace * free → length block ≡ 1
    → IsSure pace spare (set (insert blocks at []) at block) rest
sure-open pace spare blocks at block free rest slow within fewer sure one =
    let same : min pace half_size ≡ pace = omega arith in
    let product : pace * free ≡ pace * rest + pace = rw (sym fewer) (grind arith) in
    rw same (omega (
      arith,
      product,
      sure,
      one,
      sum_by-insert (λ b. progress pace b) blocks at [],
      sum_by-set (λ b. progress pace b) (insert blocks at []) at block []
          (omega (arith, length-insert blocks at [] within)),
    ))

-- where each add may split a block, no block counts as begun
pub progress_of-one : {X : Type 0} (blocks : List (List X)) → ((k : ℕ) → length (get_or blocks k []) ≤ block_size)
    → progress_of 1 blocks ≡ 0
progress_of-one [] small = refl
progress_of-one (block ∷ blocks) small =
    omega (
      arith,
      small zero,
      progress_of-one blocks (λ k. small (suc k)),
      sum_by-cons (λ b. progress 1 b) block blocks,
    )
