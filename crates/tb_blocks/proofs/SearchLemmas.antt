-- Searches in a list in which the elements that pass a test stand first.
use Rattle.std.proofs.Common.{◌≡◌, ℕ, ◌+◌, ◌-◌, ◌<◌, ◌≤◌, Bool, true, false, List, [], length, inl, inr, get_or, refl, ap, sym, ◌∙◌, arith}
use Rattle.std.specs.List.{AllWithin}
use Rattle.std.specs.List.Sorted.{IsPartitionedBy, IsPartitionPoint}
use Rattle.std.proofs.lemmas.Bool.{false≢true, cases_lt}
use Rattle.std.proofs.lemmas.List.{get_or_default}
use Rattle.tb_blocks.specs.Rows.{joined, before}
use Rattle.tb_blocks.proofs.JoinedLemmas.{joined-at}
use Rattle.tb_blocks.proofs.BeforeLemmas.{before-more, before-le}

-- a test that isn't true is false
not_true : (b : Bool) → (b ≡ true → ⊥) → b ≡ false
not_true true = λ no. absurd (no refl)
not_true false = λ no. refl

-- where an element passes, all before it do
pub all-before : {X : Type 0} (p : X → Bool) (xs : List X) (middle : ℕ) (x : X) → IsPartitionedBy p xs
    → middle < length xs → x ≡ get_or xs middle x → p x ≡ true
    → AllWithin (λ y. p y ≡ true) xs 0 (middle + 1)
all-before p xs middle x ordered short is passes =
    λ k d low below. ordered k middle d (omega arith) short
    (ap p (sym (is ∙ get_or_default xs middle x d short)) ∙ passes)

-- where one fails, all behind it do
pub none-behind : {X : Type 0} (p : X → Bool) (xs : List X) (middle : ℕ) (x : X) → IsPartitionedBy p xs
    → middle < length xs → x ≡ get_or xs middle x → p x ≡ false
    → AllWithin (λ y. p y ≡ false) xs middle (length xs)
none-behind p xs middle x ordered short is fails =
    λ k d high within. not_true (p (get_or xs k d)) (λ passes.
    let same : p (get_or xs middle d) ≡ false = ap p (sym (is ∙ get_or_default xs middle x d short)) ∙ fails in
    false≢true (sym same ∙ ordered middle k d high within passes))

-- an element of a block, read from the list
at-block : {X : Type 0} (blocks : List (List X)) (at j : ℕ) (d : X) → at < length blocks
    → j < length (get_or blocks at [])
    → get_or (get_or blocks at []) j d ≡ get_or (joined blocks) (before at blocks + j) d
at-block blocks at j d some short =
    let e : (before at blocks + j) - before at blocks ≡ j = omega arith in
    ap (λ n. get_or (get_or blocks at []) n d) (sym e)
    ∙ joined-at blocks at (before at blocks + j) d some (omega arith) (omega arith)

-- the first element of a block stands where the block begins
pub first-of-block : {X : Type 0} (blocks : List (List X)) (at : ℕ) (x : X) → at < length blocks
    → 0 < length (get_or blocks at []) → x ≡ get_or (get_or blocks at []) 0 x
    → x ≡ get_or (joined blocks) (before at blocks) x
first-of-block blocks at x some here is =
    let e : before at blocks + 0 ≡ before at blocks = omega arith in
    is ∙ at-block blocks at 0 x some here ∙ ap (λ n. get_or (joined blocks) n x) e

-- a block begins within the list, where it isn't empty
pub first-within : {X : Type 0} (blocks : List (List X)) (at : ℕ) → at < length blocks
    → 0 < length (get_or blocks at []) → before at blocks < length (joined blocks)
first-within blocks at some here = omega (arith, before-more blocks at some, before-le blocks (at + 1))

-- where the list is parted, so is each block
partitioned-block : {X : Type 0} (p : X → Bool) (blocks : List (List X)) (at : ℕ) → at < length blocks
    → IsPartitionedBy p (joined blocks) → IsPartitionedBy p (get_or blocks at [])
partitioned-block p blocks at some ordered = λ i j d low short passes.
    let within : before at blocks + j < length (joined blocks) =
    omega (arith, before-more blocks at some, before-le blocks (at + 1)) in
    let there : p (get_or (joined blocks) (before at blocks + j) d) ≡ true =
    ap p (sym (at-block blocks at j d some short)) ∙ passes in
    ap p (at-block blocks at i d some (omega arith))
    ∙ ordered (before at blocks + i) (before at blocks + j) d (omega arith) within there

-- where the block parts that the search ends in, the list does
pub partition-block : {X : Type 0} (p : X → Bool) (blocks : List (List X)) (at r : ℕ) → at < length blocks
    → IsPartitionedBy p (joined blocks)
    → AllWithin (λ y. p y ≡ true) (joined blocks) 0 (before at blocks)
    → AllWithin (λ y. p y ≡ false) (joined blocks) (before (at + 1) blocks) (length (joined blocks))
    → r ≤ length (get_or blocks at [])
    → (IsPartitionedBy p (get_or blocks at [])
    → IsPartitionPoint (λ y. p y ≡ true) (λ y. p y ≡ false) (get_or blocks at []) r)
    → IsPartitionPoint (λ y. p y ≡ true) (λ y. p y ≡ false) (joined blocks) (before at blocks + r)
partition-block {X = X} p blocks at r some ordered low high within parts =
    let point = parts (partitioned-block p blocks at some ordered) in
    let more : before (at + 1) blocks ≡ before at blocks + length (get_or blocks at []) = before-more blocks at some in
    let here : (k : ℕ) (d : X) → before at blocks ≤ k → k < before (at + 1) blocks
    → p (get_or (joined blocks) k d) ≡ p (get_or (get_or blocks at []) (k - before at blocks) d) = λ k d from to.
    let e : before at blocks + (k - before at blocks) ≡ k = omega arith in
    ap (λ n. p (get_or (joined blocks) n d)) (sym e)
    ∙ ap p (sym (at-block blocks at (k - before at blocks) d some (omega arith))) in (
      λ k d from to. elim (cases_lt k (before at blocks)) [
        | inl earlier ↦ low k d from earlier
        | inr in_block ↦ here k d in_block (omega arith) ∙ point.0 (k - before at blocks) d (omega arith) (omega arith)
      ],
      λ k d from to. elim (cases_lt k (before (at + 1) blocks)) [
        | inl in_block ↦ here k d (omega arith) in_block ∙ point.1 (k - before at blocks) d (omega arith) (omega arith)
        | inr later ↦ high k d later to
      ],
    )
