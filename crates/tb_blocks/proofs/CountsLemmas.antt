-- The numbers of elements before groups and blocks, where one block changes.
use Rattle.std.proofs.Common.{◌≡◌, ℕ, zero, suc, ◌+◌, ◌*◌, ◌/◌, ◌<◌, ◌≤◌, List, [], ◌∷◌, length, set, take, drop, get_or, min, ap, sym, ◌∙◌, arith, inl, inr, length-set, length-drop}
use Rattle.std.specs.List.{insert, remove}
use Rattle.std.proofs.lemmas.Bool.{cases_order}
use Rattle.std.proofs.lemmas.List.{get_or_default, length-take}
use Rattle.std.proofs.lemmas.List.Sums.{sum_by-cons, sum_by-insert, sum_by-remove, sum_by-set}
use Rattle.tb_blocks.specs.Sizes.{block_size, half_size, group_size, most_blocks, progress, full_of}
use Rattle.tb_blocks.specs.Rows.{joined, before, AreCounts, AreRows, IsRaised}
use Rattle.tb_blocks.proofs.RowsLemmas.{block-is, small-set}
use Rattle.tb_blocks.proofs.BeforeLemmas.{before-le, before-mono, before-set_below, before-set_above, joined-small}

-- a block's number is that of its group and its own
pub start-is : {X : Type 0} (groups starts : List ℕ) (blocks : List (List X)) (at : ℕ)
    → AreCounts groups starts blocks → at < length blocks
    → get_or groups (at / group_size) 0 + get_or starts at 0 ≡ before at blocks
start-is groups starts blocks at counts some =
    omega (arith, counts.by_block at some, counts.by_group (at / group_size) (omega (arith, counts.grouped)))

-- that number, as it is read
pub start-read : {X : Type 0} (groups starts : List ℕ) (blocks : List (List X)) (at group start : ℕ)
    → AreRows groups starts blocks → at < length blocks
    → group ≡ get_or groups (at / group_size) group → start ≡ get_or starts at start → group + start ≡ before at blocks
start-read groups starts blocks at group start rows some group_is start_is =
    omega (
      arith,
      group_is ∙ get_or_default groups (at / group_size) group 0 (omega (arith, rows.counted.grouped)),
      start_is ∙ get_or_default starts at start 0 (omega (arith, rows.counted.one_each)),
      start-is groups starts blocks at rows.counted some,
    )

-- the numbers are small
pub joined-fits : {X : Type 0} (groups starts : List ℕ) (blocks : List (List X)) → AreRows groups starts blocks
    → length (joined blocks) ≤ block_size * most_blocks
joined-fits groups starts blocks rows = omega (arith, joined-small blocks rows.small, rows.few)

-- so is what stands before a block
pub before-fits : {X : Type 0} (groups starts : List ℕ) (blocks : List (List X)) (at : ℕ)
    → AreRows groups starts blocks → before at blocks ≤ block_size * most_blocks
before-fits groups starts blocks at rows = omega (arith, before-le blocks at, joined-fits groups starts blocks rows)

-- so are those of blocks within their groups
pub starts-fit : {X : Type 0} (groups starts : List ℕ) (blocks : List (List X)) (at : ℕ)
    → AreRows groups starts blocks → at < length starts → get_or starts at 0 ≤ block_size * most_blocks
starts-fit groups starts blocks at rows some =
    omega (
      arith,
      rows.counted.by_block at (omega (arith, rows.counted.one_each)),
      before-fits groups starts blocks at rows,
    )

-- so are those of groups
pub groups-fit : {X : Type 0} (groups starts : List ℕ) (blocks : List (List X)) (at : ℕ)
    → AreRows groups starts blocks → at < length groups → get_or groups at 0 ≤ block_size * most_blocks
groups-fit groups starts blocks at rows some =
    omega (arith, rows.counted.by_group at some, before-fits groups starts blocks (group_size * at) rows)

-- the numbers behind a block count its elements
pub starts-above : {X : Type 0} (groups starts : List ℕ) (blocks : List (List X)) (at later place : ℕ)
    → AreCounts groups starts blocks → at + 1 ≤ later → later < length blocks
    → later < (at / group_size + 1) * group_size → before at blocks ≤ place → place < before (at + 1) blocks
    → 0 < get_or starts later 0
starts-above groups starts blocks at later place counts above short near low inside =
    omega (
      arith,
      counts.by_block later short,
      before-mono blocks (at + 1) later above,
      before-mono blocks (group_size * (later / group_size)) at (omega arith),
    )

-- the numbers of later groups count its elements
pub groups-above : {X : Type 0} (groups starts : List ℕ) (blocks : List (List X)) (at later place : ℕ)
    → AreCounts groups starts blocks → at / group_size + 1 ≤ later → later < length groups
    → place < before (at + 1) blocks → 0 < get_or groups later 0
groups-above groups starts blocks at later place counts above short inside =
    omega (arith, counts.by_group later short, before-mono blocks (at + 1) (group_size * later) (omega arith))

-- the number before a block, where one before it has an element more
before-put : {X : Type 0} (blocks : List (List X)) (at : ℕ) (new : List X) (k : ℕ) → at < length blocks
    → length new ≡ length (get_or blocks at []) + 1 → at < k
    → before k (set blocks at new) ≡ before k blocks + 1
before-put blocks at new k some longer above = omega (arith, before-set_above blocks at new k above some)

-- an element more in one block
pub AreCounts-put : {X : Type 0} (groups raised_groups starts raised : List ℕ) (blocks : List (List X)) (at end : ℕ)
    (new : List X) → AreCounts groups starts blocks → at < length blocks
    → length new ≡ length (get_or blocks at []) + 1 → end ≡ min (length starts) ((at / group_size + 1) * group_size)
    → IsRaised (at + 1) end starts raised → IsRaised (at / group_size + 1) (length groups) groups raised_groups
    → AreCounts raised_groups raised (set blocks at new)
AreCounts-put groups raised_groups starts raised blocks at end new counts some longer end_is up groups_up =
    let same : length (set blocks at new) ≡ length blocks = length-set blocks at new in
    record {
      one_each = omega (arith, counts.one_each, up.same);
      grouped = omega (arith, counts.grouped, groups_up.same);
      by_group = λ k short.
          let old : get_or groups k 0 ≡ before (group_size * k) blocks =
          counts.by_group k (omega (arith, groups_up.same)) in
          elim (cases_order k (at / group_size + 1)) [
            | inl e ↦ omega (
              arith,
              old,
              groups_up.mid k (omega arith) (omega (arith, groups_up.same)),
              before-put blocks at new (group_size * k) some longer (omega arith),
            )
            | inr (inl below) ↦ omega (
              arith,
              old,
              groups_up.low k below,
              before-set_below blocks at new (group_size * k) (omega arith),
            )
            | inr (inr above) ↦ omega (
              arith,
              old,
              groups_up.mid k (omega arith) (omega (arith, groups_up.same)),
              before-put blocks at new (group_size * k) some longer (omega arith),
            )
          ];
      by_block = λ k short.
          let old : before (group_size * (k / group_size)) blocks + get_or starts k 0 ≡ before k blocks =
          counts.by_block k (omega arith) in
          elim (cases_order at k) [
            | inl e ↦ omega (
              arith,
              old,
              up.low k (omega arith),
              before-set_below blocks at new (group_size * (k / group_size)) (omega arith),
              before-set_below blocks at new k (omega arith),
            )
            | inr (inr below) ↦ omega (
              arith,
              old,
              up.low k (omega arith),
              before-set_below blocks at new (group_size * (k / group_size)) (omega arith),
              before-set_below blocks at new k (omega arith),
            )
            | inr (inl above) ↦ elim (cases_order (at / group_size) (k / group_size)) [
              | inl e ↦ omega (
                arith,
                old,
                up.mid k (omega arith) (omega (arith, counts.one_each)),
                before-set_below blocks at new (group_size * (k / group_size)) (omega arith),
                before-put blocks at new k some longer above,
              )
              | inr (inl later) ↦ omega (
                arith,
                old,
                up.high k (omega arith) (omega arith),
                before-put blocks at new (group_size * (k / group_size)) some longer (omega arith),
                before-put blocks at new k some longer above,
              )
              | inr (inr earlier) ↦ absurd (omega arith)
            ]
          ];
    }

-- an element fewer in one block
pub AreCounts-take : {X : Type 0} (groups lowered_groups starts lowered : List ℕ) (blocks : List (List X))
    (at end : ℕ) (new : List X) → AreCounts groups starts blocks → at < length blocks
    → length new + 1 ≡ length (get_or blocks at []) → end ≡ min (length starts) ((at / group_size + 1) * group_size)
    → IsRaised (at + 1) end lowered starts → IsRaised (at / group_size + 1) (length groups) lowered_groups groups
    → AreCounts lowered_groups lowered (set blocks at new)
AreCounts-take groups lowered_groups starts lowered blocks at end new counts some shorter end_is down groups_down =
    let same : length (set blocks at new) ≡ length blocks = length-set blocks at new in
    record {
      one_each = omega (arith, counts.one_each, down.same);
      grouped = omega (arith, counts.grouped, groups_down.same);
      by_group = λ k short.
          let old : get_or groups k 0 ≡ before (group_size * k) blocks =
          counts.by_group k (omega (arith, groups_down.same)) in
          elim (cases_order k (at / group_size + 1)) [
            | inl e ↦ omega (
              arith,
              old,
              groups_down.mid k (omega arith) (omega (arith, groups_down.same)),
              before-set_above blocks at new (group_size * k) (omega arith) some,
            )
            | inr (inl below) ↦ omega (
              arith,
              old,
              groups_down.low k below,
              before-set_below blocks at new (group_size * k) (omega arith),
            )
            | inr (inr above) ↦ omega (
              arith,
              old,
              groups_down.mid k (omega arith) (omega (arith, groups_down.same)),
              before-set_above blocks at new (group_size * k) (omega arith) some,
            )
          ];
      by_block = λ k short.
          let old : before (group_size * (k / group_size)) blocks + get_or starts k 0 ≡ before k blocks =
          counts.by_block k (omega arith) in
          elim (cases_order at k) [
            | inl e ↦ omega (
              arith,
              old,
              down.low k (omega arith),
              before-set_below blocks at new (group_size * (k / group_size)) (omega arith),
              before-set_below blocks at new k (omega arith),
            )
            | inr (inr below) ↦ omega (
              arith,
              old,
              down.low k (omega arith),
              before-set_below blocks at new (group_size * (k / group_size)) (omega arith),
              before-set_below blocks at new k (omega arith),
            )
            | inr (inl above) ↦ elim (cases_order (at / group_size) (k / group_size)) [
              | inl e ↦ omega (
                arith,
                old,
                down.mid k (omega arith) (omega (arith, counts.one_each)),
                before-set_below blocks at new (group_size * (k / group_size)) (omega arith),
                before-set_above blocks at new k above some,
              )
              | inr (inl later) ↦ omega (
                arith,
                old,
                down.high k (omega arith) (omega arith),
                before-set_above blocks at new (group_size * (k / group_size)) (omega arith) some,
                before-set_above blocks at new k above some,
              )
              | inr (inr earlier) ↦ absurd (omega arith)
            ]
          ];
    }

-- no more blocks are full than there are
pub full_of-le : {X : Type 0} (blocks : List (List X)) → ((k : ℕ) → length (get_or blocks k []) ≤ block_size)
    → full_of blocks ≤ length blocks
full_of-le [] small = omega arith
full_of-le (block ∷ blocks) small =
    omega (arith, small zero, full_of-le blocks (λ k. small (suc k)), sum_by-cons (λ b. progress 2 b) block blocks)

-- the blocks stay counted where one gets an element
pub AreRows-put : {X : Type 0} (groups raised_groups starts raised : List ℕ) (blocks : List (List X)) (at end : ℕ)
    (block new : List X) → AreRows groups starts blocks → at < length blocks
    → block ≡ get_or blocks at block → length block < block_size → length new ≡ length block + 1
    → end ≡ min (length starts) ((at / group_size + 1) * group_size)
    → IsRaised (at + 1) end starts raised → IsRaised (at / group_size + 1) (length groups) groups raised_groups
    → AreRows raised_groups raised (set blocks at new)
AreRows-put groups raised_groups starts raised blocks at end block new rows some is room longer end_is up groups_up =
    let e : length block ≡ length (get_or blocks at []) = ap (λ b. length b) (block-is blocks at block some is) in
    record {
      counted = AreCounts-put groups raised_groups starts raised blocks at end new rows.counted some (omega arith)
          end_is up groups_up;
      small = small-set blocks at new some rows.small (omega arith);
      few = omega (arith, rows.few, length-set blocks at new);
    }

-- and where one loses one
pub AreRows-take : {X : Type 0} (groups lowered_groups starts lowered : List ℕ) (blocks : List (List X)) (at end : ℕ)
    (block new : List X) → AreRows groups starts blocks → at < length blocks
    → block ≡ get_or blocks at block → length new + 1 ≡ length block
    → end ≡ min (length starts) ((at / group_size + 1) * group_size)
    → IsRaised (at + 1) end lowered starts → IsRaised (at / group_size + 1) (length groups) lowered_groups groups
    → AreRows lowered_groups lowered (set blocks at new)
AreRows-take groups lowered_groups starts lowered blocks at end block new rows some is shorter end_is down groups_down =
    let e : length block ≡ length (get_or blocks at []) = ap (λ b. length b) (block-is blocks at block some is) in
    record {
      counted = AreCounts-take groups lowered_groups starts lowered blocks at end new rows.counted some (omega arith)
          end_is down groups_down;
      small = small-set blocks at new some rows.small (omega (arith, rows.small at));
      few = omega (arith, rows.few, length-set blocks at new);
    }

-- and where an element gives its place to another
pub AreRows-replace : {X : Type 0} (groups starts : List ℕ) (blocks : List (List X)) (at : ℕ) (block new : List X)
    → AreRows groups starts blocks → at < length blocks
    → block ≡ get_or blocks at block → length new ≡ length block → AreRows groups starts (set blocks at new)
AreRows-replace groups starts blocks at block new rows some is same =
    let e : length block ≡ length (get_or blocks at []) = ap (λ b. length b) (block-is blocks at block some is) in
    let before-same : (k : ℕ) → before k (set blocks at new) ≡ before k blocks = λ k.
    elim (cases_order at k) [
      | inl f ↦ before-set_below blocks at new k (omega arith)
      | inr (inl above) ↦ omega (arith, before-set_above blocks at new k above some)
      | inr (inr below) ↦ before-set_below blocks at new k (omega arith)
    ] in
    record {
      counted = record {
        one_each = omega (arith, rows.counted.one_each, length-set blocks at new);
        grouped = omega (arith, rows.counted.grouped, length-set blocks at new);
        by_group = λ k short. rows.counted.by_group k short ∙ sym (before-same (group_size * k));
        by_block = λ k short. omega (
          arith,
          rows.counted.by_block k (omega (arith, length-set blocks at new)),
          before-same (group_size * (k / group_size)),
          before-same k,
        );
      };
      small = small-set blocks at new some rows.small (omega (arith, rows.small at));
      few = omega (arith, rows.few, length-set blocks at new);
    }

-- how many are full, where one block changes
pub full_of-set : {X : Type 0} (blocks : List (List X)) (at : ℕ) (block new : List X) → at < length blocks
    → block ≡ get_or blocks at block
    → full_of (set blocks at new) + progress 2 block ≡ full_of blocks + progress 2 new
full_of-set blocks at block new some is =
    omega (
      arith,
      ap (λ b. length b) (block-is blocks at block some is),
      sum_by-set (λ b. progress 2 b) blocks at new [] some,
    )

-- where one comes in
pub full_of-insert : {X : Type 0} (blocks : List (List X)) (at : ℕ) (block : List X)
    → full_of (insert blocks at block) ≡ full_of blocks + progress 2 block
full_of-insert blocks at block = sum_by-insert (λ b. progress 2 b) blocks at block

-- where a full one is split
pub full_of-split : {X : Type 0} (blocks : List (List X)) (at : ℕ) (block lower upper : List X)
    → at < length blocks
    → block ≡ get_or blocks at block
    → length block ≡ block_size
    → lower ≡ take half_size block
    → upper ≡ drop half_size block
    → full_of (insert (set blocks at lower) (at + 1) upper) + 1 ≡ full_of blocks
full_of-split blocks at block lower upper some is full lower_is upper_is =
    omega (
      arith,
      full_of-insert (set blocks at lower) (at + 1) upper,
      full_of-set blocks at block lower some is,
      full,
      ap (λ b. length b) lower_is,
      length-take half_size block,
      ap (λ b. length b) upper_is,
      length-drop half_size block,
    )

-- and where an empty one goes
pub full_of-remove : {X : Type 0} (blocks : List (List X)) (at : ℕ)
    → at < length blocks
    → get_or blocks at [] ≡ []
    → full_of (remove blocks at) ≡ full_of blocks
full_of-remove blocks at some empty =
    omega (
      arith,
      sum_by-remove (λ b. progress 2 b) blocks at [] some,
      ap (λ b. length b) empty,
    )
