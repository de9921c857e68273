-- The blocks of a list, where one is read, split or found.
use Rattle.std.proofs.Common.{◌≡◌, ℕ, ◌+◌, ◌-◌, ◌<◌, ◌≤◌, ◌⊎◌, List, [], length, set, take, drop, get_or, ap, sym, ◌∙◌, arith, inl, inr, length-set, get_or-set_same, get_or-set_other, length-drop}
use Rattle.std.specs.List.{insert, remove}
use Rattle.std.proofs.lemmas.Bool.{cases_order}
use Rattle.std.proofs.lemmas.List.{length-take, length-take-le, get_or_default}
use Rattle.std.proofs.lemmas.List.Edits.{length-insert, get_or-insert_below, get_or-insert_at, get_or-insert_above, get_or-remove_below, get_or-remove_above}
use Rattle.tb_blocks.specs.Sizes.{block_size, half_size}
use Rattle.tb_blocks.specs.Rows.{joined, before, halves}
use Rattle.tb_blocks.proofs.JoinedLemmas.{joined-at}
use Rattle.tb_blocks.proofs.BeforeLemmas.{before-more, before-end, before-set_below, before-insert_below}

-- where a search for a place ends: in the block, or at the end of the list
pub search-end : {X : Type 0} (blocks : List (List X)) (place low high : ℕ) → low < high → high ≤ length blocks
    → high - low ≤ 1
    → (high < length blocks → place < before high blocks)
    → (place < before (low + 1) blocks) ⊎ (before (low + 1) blocks ≡ length (joined blocks))
search-end blocks place low high some within near after =
    elim (cases_order high (length blocks)) [
      | inl e ↦ inr (before-end blocks (low + 1) (omega arith))
      | inr (inl below) ↦
          let is : low + 1 ≡ high = omega arith in
          inl (rw is (after below))
      | inr (inr above) ↦ absurd (omega arith)
    ]

-- a block that was read is the one at its place
pub block-is : {X : Type 0} (blocks : List (List X)) (at : ℕ) (block : List X) → at < length blocks
    → block ≡ get_or blocks at block → block ≡ get_or blocks at []
block-is blocks at block some is = is ∙ get_or_default blocks at block [] some

-- the last block ends the list
pub last-end : {X : Type 0} (blocks : List (List X)) (at : ℕ) (last : List X) → at + 1 ≡ length blocks
    → last ≡ get_or blocks at last
    → before at blocks + length last ≡ length (joined blocks)
last-end blocks at last end is =
    let some : at < length blocks = omega arith in
    omega (
      arith,
      ap (λ b. length b) (block-is blocks at last some is),
      before-more blocks at some,
      before-end blocks (at + 1) (omega arith),
    )

-- the place in its block
pub place-within : {X : Type 0} (blocks : List (List X)) (at place : ℕ) (block : List X) → at < length blocks
    → block ≡ get_or blocks at block
    → place ≤ before (at + 1) blocks → place - before at blocks ≤ length block
place-within blocks at place block some is high =
    omega (arith, ap (λ b. length b) (block-is blocks at block some is), before-more blocks at some)

-- the place of an element in its block
pub place-inside : {X : Type 0} (blocks : List (List X)) (at place : ℕ) (block : List X) → at < length blocks
    → block ≡ get_or blocks at block
    → before at blocks ≤ place → place < before (at + 1) blocks → place - before at blocks < length block
place-inside blocks at place block some is low high =
    omega (arith, ap (λ b. length b) (block-is blocks at block some is), before-more blocks at some)

-- the element at a place, read from its block
pub at-joined : {X : Type 0} (blocks : List (List X)) (at place : ℕ) (block : List X) (d : X) → at < length blocks
    → block ≡ get_or blocks at block
    → before at blocks ≤ place → place < before (at + 1) blocks
    → get_or block (place - before at blocks) d ≡ get_or (joined blocks) place d
at-joined blocks at place block d some is low high =
    ap (λ b. get_or b (place - before at blocks) d) (block-is blocks at block some is)
    ∙ joined-at blocks at place d some low (omega (arith, before-more blocks at some))

-- the other blocks stay as small
pub small-set : {X : Type 0} (blocks : List (List X)) (at : ℕ) (block : List X) → at < length blocks
    → ((j : ℕ) → length (get_or blocks j []) ≤ block_size) → length block ≤ block_size
    → (k : ℕ) → length (get_or (set blocks at block) k []) ≤ block_size
small-set blocks at block some small fits = λ k.
    elim (cases_order at k) [
      | inl e ↦ rw (sym e, get_or-set_same blocks at block [] some) fits
      | inr (inl above) ↦ let apart : k ≡ at → ⊥ =
          λ e. omega arith in rw (get_or-set_other blocks at k block [] apart) (small k)
      | inr (inr below) ↦ let apart : k ≡ at → ⊥ =
          λ e. omega arith in rw (get_or-set_other blocks at k block [] apart) (small k)
    ]

-- and so do they beside a small new one
pub small-insert : {X : Type 0} (blocks : List (List X)) (at : ℕ) (block : List X) → at ≤ length blocks
    → ((j : ℕ) → length (get_or blocks j []) ≤ block_size) → length block ≤ block_size
    → (k : ℕ) → length (get_or (insert blocks at block) k []) ≤ block_size
small-insert blocks at block within small fits = λ k.
    elim (cases_order k at) [
      | inl e ↦ rw (e, get_or-insert_at blocks at block [] within) fits
      | inr (inl below) ↦ rw (get_or-insert_below blocks at block [] k below within) (small k)
      | inr (inr above) ↦
          let e : k ≡ (k - 1) + 1 = omega arith in
          rw (e, get_or-insert_above blocks at block [] (k - 1) (omega arith) within) (small (k - 1))
    ]

-- and where one is taken out
pub small-remove : {X : Type 0} (blocks : List (List X)) (at : ℕ) → at < length blocks
    → ((j : ℕ) → length (get_or blocks j []) ≤ block_size)
    → (k : ℕ) → length (get_or (remove blocks at) k []) ≤ block_size
small-remove blocks at some small = λ k.
    elim (cases_order k at) [
      | inl e ↦ rw (get_or-remove_above blocks at [] k (omega arith) some) (small (k + 1))
      | inr (inl below) ↦ rw (get_or-remove_below blocks at [] k below some) (small k)
      | inr (inr above) ↦ rw (get_or-remove_above blocks at [] k (omega arith) some) (small (k + 1))
    ]

-- a block in two: one block more, and both are small
pub length-split : {X : Type 0} (blocks : List (List X)) (at : ℕ) (lower upper : List X) → at < length blocks
    → length (insert (set blocks at lower) (at + 1) upper) ≡ length blocks + 1
length-split blocks at lower upper some =
    length-insert (set blocks at lower) (at + 1) upper (omega (arith, length-set blocks at lower))
    ∙ ap (λ n. n + 1) (length-set blocks at lower)

-- both halves are small
pub small-split : {X : Type 0} (blocks : List (List X)) (at : ℕ) (block lower upper : List X) → at < length blocks
    → ((j : ℕ) → length (get_or blocks j []) ≤ block_size)
    → block ≡ get_or blocks at block → lower ≡ take half_size block → upper ≡ drop half_size block → (k : ℕ)
    → length (get_or (insert (set blocks at lower) (at + 1) upper) k []) ≤ block_size
small-split blocks at block lower upper some small is lower_is upper_is =
    let e : length block ≡ length (get_or blocks at []) = ap (λ b. length b) (block-is blocks at block some is) in
    let low : length lower ≤ block_size =
    omega (arith, ap (λ b. length b) lower_is, length-take half_size block, small at) in
    let high : length upper ≤ block_size =
    omega (arith, ap (λ b. length b) upper_is, length-drop half_size block, small at) in
    small-insert (set blocks at lower) (at + 1) upper (omega (arith, length-set blocks at lower))
    (small-set blocks at lower some small low) high

-- the half that stays
pub halves-lower : {X : Type 0} (blocks : List (List X)) (at : ℕ) → at < length blocks
    → get_or (halves blocks at) at [] ≡ take half_size (get_or blocks at [])
halves-lower blocks at some =
    get_or-insert_below (set blocks at (take half_size (get_or blocks at []))) (at + 1)
    (drop half_size (get_or blocks at [])) [] at (omega arith)
    (omega (arith, length-set blocks at (take half_size (get_or blocks at []))))
    ∙ get_or-set_same blocks at (take half_size (get_or blocks at [])) [] some

-- the half that goes behind it
pub halves-upper : {X : Type 0} (blocks : List (List X)) (at : ℕ) → at < length blocks
    → get_or (halves blocks at) (at + 1) [] ≡ drop half_size (get_or blocks at [])
halves-upper blocks at some =
    get_or-insert_at (set blocks at (take half_size (get_or blocks at []))) (at + 1)
    (drop half_size (get_or blocks at [])) []
    (omega (arith, length-set blocks at (take half_size (get_or blocks at []))))

-- one block more
pub length-halves : {X : Type 0} (blocks : List (List X)) (at : ℕ) → at < length blocks
    → length (halves blocks at) ≡ length blocks + 1
length-halves blocks at some =
    length-insert (set blocks at (take half_size (get_or blocks at []))) (at + 1)
    (drop half_size (get_or blocks at []))
    (omega (arith, length-set blocks at (take half_size (get_or blocks at []))))
    ∙ ap (λ n. n + 1) (length-set blocks at (take half_size (get_or blocks at [])))

-- half of a full block
pub lower-half : {X : Type 0} (block : List X) → length block ≡ block_size → length (take half_size block) ≡ half_size
lower-half block full = length-take-le half_size block (omega arith)

-- and the other half
pub upper-half : {X : Type 0} (block : List X) → length block ≡ block_size → length (drop half_size block) ≡ half_size
upper-half block full = length-drop half_size block ∙ ap (λ n. n - half_size) full

-- both halves are as long as the block
pub before-halves : {X : Type 0} (blocks : List (List X)) (at : ℕ) → at < length blocks
    → length (get_or blocks at []) ≡ block_size → before (at + 1 + 1) (halves blocks at) ≡ before (at + 1) blocks
before-halves blocks at some full =
    let lower = take half_size (get_or blocks at []) in
    let upper = drop half_size (get_or blocks at []) in
    let first : length (get_or (halves blocks at) at []) ≡ half_size =
    ap (λ b. length b) (halves-lower blocks at some) ∙ lower-half (get_or blocks at []) full in
    let second : length (get_or (halves blocks at) (at + 1) []) ≡ half_size =
    ap (λ b. length b) (halves-upper blocks at some) ∙ upper-half (get_or blocks at []) full in
    let longer = length-halves blocks at some in
    omega (
      arith,
      first,
      second,
      full,
      before-more (halves blocks at) (at + 1) (omega (arith, longer)),
      before-more (halves blocks at) at (omega (arith, longer)),
      before-more blocks at some,
      before-insert_below (set blocks at lower) (at + 1) upper at (omega (arith, length-set blocks at lower))
          (omega arith),
      before-set_below blocks at lower at (omega arith),
    )
