-- Counting blocks, one after another.
use Rattle.std.proofs.Common.{◌≡◌, ℕ, zero, suc, ◌+◌, ◌-◌, ◌*◌, ◌/◌, ◌%◌, ◌<◌, ◌≤◌, List, [], ◌∷◌, ◌++◌, length, take, get_or, ap, ◌∙◌, arith, inl, inr, length-append}
use Rattle.std.proofs.lemmas.Bool.{cases_order}
use Rattle.std.proofs.Math.ListN.{get_or-append}
use Rattle.std.proofs.Math.Seq.{get_or-append_seam}
use Rattle.std.proofs.lemmas.List.{get_or-take, length-take}
use Rattle.std.proofs.lemmas.List.Sums.{sum_by-cons}
use Rattle.tb_blocks.specs.Sizes.{block_size, group_size}
use Rattle.tb_blocks.specs.Rows.{before, AreCountedTo, AreCounts}
use Rattle.tb_blocks.proofs.BeforeLemmas.{before-more}

-- the blocks before one are counted, and so many elements stand before it and before its group
pub record IsCounting {X : Type 0} (at total group : ℕ) (groups starts : List ℕ) (blocks : List (List X)) : Type 0 where
  pub one_each : length starts ≡ at
  pub begun : at ≤ group_size * length groups
  pub few : group_size * length groups < at + group_size
  pub by_group : (k : ℕ) → k < length groups → get_or groups k 0 ≡ before (group_size * k) blocks
  pub by_block : (k : ℕ) → k < at → before (group_size * (k / group_size)) blocks + get_or starts k 0 ≡ before k blocks
  pub total_is : total ≡ before at blocks
  pub low : group ≤ total
  pub group_is : 0 < at % group_size → group ≡ before (group_size * (at / group_size)) blocks

-- the block's group is counted too
pub record IsGrouped {X : Type 0} (at total group : ℕ) (groups : List ℕ) (blocks : List (List X)) : Type 0 where
  pub begun : at < group_size * length groups
  pub few : group_size * length groups ≤ at + group_size
  pub by_group : (k : ℕ) → k < length groups → get_or groups k 0 ≡ before (group_size * k) blocks
  pub low : group ≤ total
  pub group_is : group ≡ before (group_size * (at / group_size)) blocks

-- a group begins
pub grouped-new : {X : Type 0} (at total group : ℕ) (groups longer starts : List ℕ) (blocks : List (List X))
    → IsCounting at total group groups starts blocks
    → at % group_size ≡ 0 → longer ≡ groups ++ total ∷ [] → IsGrouped at total total longer blocks
grouped-new at total group groups longer starts blocks counting first is =
    let more : length longer ≡ length groups + 1 = ap (λ l. length l) is ∙ length-append groups (total ∷ []) in
    let same : group_size * length groups ≡ at = omega (arith, counting.begun, counting.few) in
    record {
      begun = omega (arith, counting.begun);
      few = omega (arith, counting.few);
      by_group = λ k short.
          elim (cases_order k (length groups)) [
            | inl e ↦
                let value : get_or longer k 0 ≡ total =
                ap (λ l. get_or l k 0) is ∙ ap (λ j. get_or (groups ++ total ∷ []) j 0) e
                ∙ get_or-append_seam groups total [] 0 in
                value ∙ counting.total_is ∙ ap (λ n. before n blocks)
                (let z : at ≡ group_size * k = omega (arith, same) in z)
            | inr (inl below) ↦ ap (λ l. get_or l k 0) is ∙ get_or-append groups (total ∷ []) 0 k below
                ∙ counting.by_group k below
            | inr (inr above) ↦ absurd (omega arith)
          ];
      low = omega arith;
      group_is = counting.total_is ∙ ap (λ n. before n blocks)
          (let z : at ≡ group_size * (at / group_size) = omega arith in z);
    }

-- the group goes on
pub grouped-same : {X : Type 0} (at total group : ℕ) (groups starts : List ℕ) (blocks : List (List X))
    → IsCounting at total group groups starts blocks
    → (at % group_size ≡ 0 → ⊥) → IsGrouped at total group groups blocks
grouped-same at total group groups starts blocks counting later =
    let some : 0 < at % group_size = omega (arith, later) in
    record {
      begun = omega (arith, counting.begun, counting.few);
      few = omega (arith, counting.few);
      by_group = counting.by_group;
      low = counting.low;
      group_is = counting.group_is some;
    }

-- one block more is counted
pub counting-next : {X : Type 0} (at total group new_group : ℕ) (groups new_groups starts new_starts : List ℕ)
    (blocks : List (List X)) (block : List X) → IsCounting at total group groups starts blocks
    → at < length blocks → block ≡ get_or blocks at [] → IsGrouped at total new_group new_groups blocks
    → new_starts ≡ starts ++ (total - new_group) ∷ []
    → IsCounting (at + 1) (total + length block) new_group new_groups new_starts blocks
counting-next at total group new_group groups new_groups starts new_starts blocks block counting some block_is grouped
    is =
    let more : length new_starts ≡ length starts + 1 =
    ap (λ l. length l) is ∙ length-append starts ((total - new_group) ∷ []) in
    record {
      one_each = omega (arith, more, counting.one_each);
      begun = omega (arith, grouped.begun);
      few = omega (arith, grouped.few);
      by_group = grouped.by_group;
      by_block = λ k short.
          elim (cases_order k at) [
            | inl e ↦
                let last : k ≡ length starts = omega (arith, counting.one_each) in
                let value : get_or new_starts k 0 ≡ total - new_group =
                ap (λ l. get_or l k 0) is ∙ ap (λ j. get_or (starts ++ (total - new_group) ∷ []) j 0) last
                ∙ get_or-append_seam starts (total - new_group) [] 0 in
                rw e (omega (arith, rw e at value, grouped.low, grouped.group_is, counting.total_is))
            | inr (inl below) ↦ rw (
              is,
              get_or-append starts ((total - new_group) ∷ []) 0 k
                  (omega (arith, counting.one_each)),
            ) (counting.by_block k below)
            | inr (inr above) ↦ absurd (omega arith)
          ];
      total_is = omega (arith, counting.total_is, before-more blocks at some, ap (λ b. length b) block_is);
      low = omega (arith, grouped.low);
      group_is = λ later. grouped.group_is
          ∙ ap (λ n. before (group_size * n) blocks)
          (let z : at / group_size ≡ (at + 1) / group_size = omega arith in z);
    }

-- the blocks before a group are counted, and nothing of it
pub counting-begun : {X : Type 0} (group total : ℕ) (groups starts : List ℕ) (blocks : List (List X))
    → AreCountedTo group total groups starts blocks
    → IsCounting (group_size * group) total total (take group groups) (take (group_size * group) starts) blocks
counting-begun group total groups starts blocks counted =
    let told : length (take group groups) ≡ group = omega (arith, length-take group groups, counted.groups_told) in
    let each : length (take (group_size * group) starts) ≡ group_size * group =
    omega (arith, length-take (group_size * group) starts, counted.starts_told) in
    record {
      one_each = each;
      begun = omega (arith, told);
      few = omega (arith, told);
      by_group = λ k short.
          let before_it : k < group = omega (arith, told) in
          get_or-take group groups k 0 before_it ∙ counted.by_group k before_it;
      by_block = λ k short. rw (get_or-take (group_size * group) starts k 0 short) (counted.by_block k short);
      total_is = counted.total_is;
      low = omega arith;
      group_is = λ inside. absurd (omega (arith, inside));
    }

-- so many elements at most stand before a block
pub before-small : {X : Type 0} (blocks : List (List X)) (at : ℕ)
    → ((k : ℕ) → length (get_or blocks k []) ≤ block_size)
    → before at blocks ≤ block_size * at
before-small blocks zero small = omega arith
before-small [] (suc at) small = omega arith
before-small (block ∷ blocks) (suc at) small =
    omega (
      arith,
      small zero,
      before-small blocks at (λ k. small (suc k)),
      sum_by-cons (λ b. length b) block (take at blocks),
    )

-- blocks of which those before a group stand as they were counted
pub counted-before : {X : Type 0} (group total : ℕ) (groups starts : List ℕ) (old new : List (List X))
    → AreCounts groups starts old
    → group_size * group ≤ length old
    → group ≤ length groups
    → group_size * group ≤ length new
    → total ≡ before (group_size * group) old
    → ((k : ℕ) → k ≤ group_size * group → before k new ≡ before k old)
    → AreCountedTo group total groups starts new
counted-before group total groups starts old new counts within told longer total_is same = record {
  within = longer;
  groups_told = told;
  starts_told = omega (arith, counts.one_each);
  by_group = λ k short. omega (
    arith,
    counts.by_group k (omega (arith, told)),
    same (group_size * k) (omega (arith, short)),
  );
  by_block = λ k short. omega (
    arith,
    counts.by_block k (omega (arith, within)),
    same k (omega (arith, short)),
    same (group_size * (k / group_size)) (omega (arith, short)),
  );
  total_is = omega (arith, total_is, same (group_size * group) (omega arith));
}
