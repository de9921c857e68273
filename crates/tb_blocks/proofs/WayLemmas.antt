-- The block that an element goes into, and that no block is left empty.
use Rattle.std.proofs.Common.{◌≡◌, ℕ, zero, suc, ◌+◌, ◌-◌, ◌<◌, ◌≤◌, List, [], ◌∷◌, ◌++◌, length, set, take, drop, get_or, refl, ap, sym, arith, inl, inr, add-one, length-set, get_or-set_same, get_or-set_other}
use Rattle.std.specs.List.{insert, remove}
use Rattle.std.proofs.lemmas.Bool.{cases_order}
use Rattle.std.proofs.lemmas.List.Edits.{length-insert, get_or-insert_below, get_or-insert_at, get_or-insert_above, length-remove, get_or-remove_below, get_or-remove_above}
use Rattle.tb_blocks.specs.Sizes.{block_size, half_size}
use Rattle.tb_blocks.specs.Rows.{joined, before, AreFilled, IsWay, halves}
use Rattle.tb_blocks.proofs.BeforeLemmas.{before-insert_below, before-insert_above}
use Rattle.tb_blocks.proofs.RowsLemmas.{length-halves, lower-half, upper-half}
use Rattle.tb_blocks.proofs.JoinedLemmas.{joined-split}

-- an empty block more holds nothing more
pub joined-open : {X : Type 0} (blocks : List (List X)) (at : ℕ) → at ≤ length blocks
    → joined (insert blocks at []) ≡ joined blocks
joined-open blocks zero within = refl
joined-open [] (suc at) within = absurd (omega arith)
joined-open (block ∷ blocks) (suc at) within = ap (λ rest. block ++ rest) (joined-open blocks at (omega arith))

-- a new block where the place is
pub IsWay-open : {X : Type 0} (blocks : List (List X)) (at place : ℕ) → at ≤ length blocks → before at blocks ≡ place
    → IsWay place at blocks (insert blocks at [])
IsWay-open blocks at place within is =
    record {
      same = joined-open blocks at within;
      there = omega (arith, length-insert blocks at [] within);
      low = omega (arith, before-insert_below blocks at [] at within (omega arith));
      high = rw (add-one at) (omega (arith, before-insert_above blocks at [] at within (omega arith)));
      room = rw (get_or-insert_at blocks at [] [] within) (omega arith);
    }

-- no block is empty
abbrev pub AllFilled : {X : Type 0} → List (List X) → Type 0
AllFilled blocks = (k : ℕ) → k < length blocks → 0 < length (get_or blocks k [])

-- none is, where one isn't
pub filled-all : {X : Type 0} (blocks : List (List X)) (at : ℕ) → AreFilled blocks → at < length blocks
    → 0 < length (get_or blocks at []) → AllFilled blocks
filled-all blocks at filled some here = λ k short.
    elim (cases_order at k) [
      | inl e ↦ rw (sym e) here
      | inr (inl above) ↦ filled k short (omega arith)
      | inr (inr below) ↦ filled k short (omega arith)
    ]

-- a block that isn't empty in the place of another
pub filled-set : {X : Type 0} (blocks : List (List X)) (at : ℕ) (block : List X) → AreFilled blocks
    → at < length blocks → 0 < length block → AreFilled (set blocks at block)
filled-set blocks at block filled some here = λ k short several.
    let same : length (set blocks at block) ≡ length blocks = length-set blocks at block in
    elim (cases_order at k) [
      | inl e ↦ rw (sym e, get_or-set_same blocks at block [] some) here
      | inr (inl above) ↦ let apart : k ≡ at → ⊥ =
          λ e. omega arith in rw (get_or-set_other blocks at k block [] apart) (filled k (omega arith) (omega arith))
      | inr (inr below) ↦ let apart : k ≡ at → ⊥ =
          λ e. omega arith in rw (get_or-set_other blocks at k block [] apart) (filled k (omega arith) (omega arith))
    ]

-- the other blocks where one changes
pub filled-others : {X : Type 0} (blocks : List (List X)) (at : ℕ) (block : List X) → AreFilled blocks
    → at < length blocks
    → (k : ℕ) → (k ≡ at → ⊥) → k < length (set blocks at block) → 0 < length (get_or (set blocks at block) k [])
filled-others blocks at block filled some = λ k apart short.
    let same : length (set blocks at block) ≡ length blocks = length-set blocks at block in
    let several : 1 < length blocks = omega (arith, apart) in
    rw (get_or-set_other blocks at k block [] apart) (filled k (omega arith) several)

-- a new block that isn't empty
pub filled-insert : {X : Type 0} (blocks : List (List X)) (at : ℕ) (block : List X) → AllFilled blocks
    → at ≤ length blocks → 0 < length block → AllFilled (insert blocks at block)
filled-insert blocks at block filled within here = λ k short.
    let more : length (insert blocks at block) ≡ length blocks + 1 = length-insert blocks at block within in
    elim (cases_order k at) [
      | inl e ↦ rw (e, get_or-insert_at blocks at block [] within) here
      | inr (inl below) ↦ rw (get_or-insert_below blocks at block [] k below within) (filled k (omega arith))
      | inr (inr above) ↦
          let e : k ≡ (k - 1) + 1 = omega arith in
          rw (e, get_or-insert_above blocks at block [] (k - 1) (omega arith) within) (filled (k - 1) (omega arith))
    ]

-- a new empty block that gets an element
pub filled-open : {X : Type 0} (blocks : List (List X)) (at : ℕ) (block : List X) → AllFilled blocks
    → at ≤ length blocks → 0 < length block → AreFilled (set (insert blocks at []) at block)
filled-open blocks at block filled within here = λ k short several.
    let more : length (insert blocks at []) ≡ length blocks + 1 = length-insert blocks at [] within in
    let same : length (set (insert blocks at []) at block) ≡ length (insert blocks at []) =
    length-set (insert blocks at []) at block in
    elim (cases_order k at) [
      | inl e ↦ rw (e, get_or-set_same (insert blocks at []) at block [] (omega arith)) here
      | inr (inl below) ↦
          let apart : k ≡ at → ⊥ = λ e. omega arith in
          rw (
            get_or-set_other (insert blocks at []) at k block [] apart,
            get_or-insert_below blocks at [] [] k below within,
          ) (filled k (omega arith))
      | inr (inr above) ↦
          let apart : k ≡ at → ⊥ = λ e. omega arith in
          let e : k ≡ (k - 1) + 1 = omega arith in
          rw (
            get_or-set_other (insert blocks at []) at k block [] apart,
            e,
            get_or-insert_above blocks at [] [] (k - 1) (omega arith) within,
          ) (filled (k - 1) (omega arith))
    ]

-- both halves of a full block
pub filled-halves : {X : Type 0} (blocks : List (List X)) (at : ℕ) → AllFilled blocks → at < length blocks
    → length (get_or blocks at []) ≡ block_size → AllFilled (halves blocks at)
filled-halves blocks at filled some full =
    let lower = take half_size (get_or blocks at []) in
    let upper = drop half_size (get_or blocks at []) in
    let low : length lower ≡ half_size = lower-half (get_or blocks at []) full in
    let high : length upper ≡ half_size = upper-half (get_or blocks at []) full in
    filled-insert (set blocks at lower) (at + 1) upper
    (λ k short. elim (cases_order at k) [
      | inl e ↦ rw (sym e, get_or-set_same blocks at lower [] some) (omega arith)
      | inr (inl above) ↦ let apart : k ≡ at → ⊥ =
          λ e. omega arith in rw (get_or-set_other blocks at k lower [] apart)
          (filled k (omega (arith, length-set blocks at lower)))
      | inr (inr below) ↦ let apart : k ≡ at → ⊥ =
          λ e. omega arith in rw (get_or-set_other blocks at k lower [] apart)
          (filled k (omega (arith, length-set blocks at lower)))
    ])
    (omega (arith, length-set blocks at lower)) (omega arith)

-- the blocks that are left where an empty one goes
pub filled-remove : {X : Type 0} (blocks : List (List X)) (at : ℕ) → at < length blocks
    → ((k : ℕ) → (k ≡ at → ⊥) → k < length blocks → 0 < length (get_or blocks k [])) → AreFilled (remove blocks at)
filled-remove blocks at some others = λ k short several.
    let fewer : length (remove blocks at) + 1 ≡ length blocks = length-remove blocks at some in
    elim (cases_order k at) [
      | inl e ↦ rw (get_or-remove_above blocks at [] k (omega arith) some)
          (others (k + 1) (λ same. omega arith) (omega arith))
      | inr (inl below) ↦ rw (get_or-remove_below blocks at [] k below some)
          (others k (λ same. omega arith) (omega arith))
      | inr (inr above) ↦ rw (get_or-remove_above blocks at [] k (omega arith) some)
          (others (k + 1) (λ same. omega arith) (omega arith))
    ]

-- the half of a split that the place is in
pub IsWay-split : {X : Type 0} (blocks : List (List X)) (at side place : ℕ) → at < length blocks → side ≤ at + 1
    → before side (halves blocks at) ≤ place → place ≤ before (side + 1) (halves blocks at)
    → length (get_or (halves blocks at) side []) ≡ half_size → IsWay place side blocks (halves blocks at)
IsWay-split blocks at side place some near low high half =
    record {
      same = joined-split blocks at half_size some;
      there = omega (arith, length-halves blocks at some);
      low = low;
      high = high;
      room = omega (arith, half);
    }
