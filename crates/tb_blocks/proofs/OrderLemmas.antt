-- Lists in the order of their elements' keys.
use Rattle.std.proofs.Common.{◌≡◌, ℕ, ◌+◌, ◌-◌, ◌<◌, ◌≤◌, true, false, List, [], ◌∷◌, length, set, get_or, AllPairs, inl, inr, refl, ap, sym, ◌∙◌, arith, length-set, get_or-set_same, get_or-set_other}
use Rattle.std.specs.List.{insert, remove, AllWithin, HoldsAt}
use Rattle.std.specs.List.Sorted.{IsPartitionedBy, IsPartitionPoint}
use Rattle.std.specs.Ordering.{is_lt, is_eq, ordering_reverse}
use Rattle.std.specs.declared.cmp.Ordering.{Ordering}
use Rattle.std.specs.declared.cmp.Ordering.TheVariants.{Less, Equal, Greater}
use Rattle.std.specs.Cmp.{IsTotalOrder}
use Rattle.std.proofs.lemmas.Cmp.{alike_right}
use Rattle.std.proofs.lemmas.Bool.{cases_order, cases_lt, false≢true}
use Rattle.std.proofs.lemmas.List.{get_or_default}
use Rattle.std.proofs.lemmas.List.Edits.{length-insert, get_or-insert_below, get_or-insert_at, get_or-insert_above, length-remove, get_or-remove_below, get_or-remove_above}
use Rattle.tb_blocks.specs.Orders.{is_below, AreOrdered, HasKey, PartsAt}

-- an element put between those that relate to it and those that it relates to
pub AllPairs-insert : {X : Type 0} (R : X → X → Type 0) (xs : List X) (i : ℕ) (y : X) → i ≤ length xs → AllPairs R xs
    → AllWithin (λ x. R x y) xs 0 i → AllWithin (R y) xs i (length xs) → AllPairs R (insert xs i y)
AllPairs-insert R xs i y within pairs before behind = λ a b d earlier short.
    let more : length (insert xs i y) ≡ length xs + 1 = length-insert xs i y within in
    elim (cases_order b i) [
      | inl at ↦ rw (at, get_or-insert_at xs i y d within, get_or-insert_below xs i y d a (omega arith) within)
          (before a d (omega arith) (omega arith))
      | inr (inl below) ↦ rw (
        get_or-insert_below xs i y d a (omega arith) within,
        get_or-insert_below xs i y d b below within,
      )
          (pairs a b d earlier (omega arith))
      | inr (inr above) ↦
          let last : b ≡ (b - 1) + 1 = omega arith in
          elim (cases_order a i) [
            | inl at ↦ rw (
              at,
              last,
              get_or-insert_at xs i y d within,
              get_or-insert_above xs i y d (b - 1) (omega arith) within,
            )
                (behind (b - 1) d (omega arith) (omega arith))
            | inr (inl below) ↦ rw (
              get_or-insert_below xs i y d a below within,
              last,
              get_or-insert_above xs i y d (b - 1) (omega arith) within,
            )
                (pairs a (b - 1) d (omega arith) (omega arith))
            | inr (inr later) ↦
                let first : a ≡ (a - 1) + 1 = omega arith in
                rw (
                  first,
                  last,
                  get_or-insert_above xs i y d (a - 1) (omega arith) within,
                  get_or-insert_above xs i y d (b - 1) (omega arith) within,
                )
                (pairs (a - 1) (b - 1) d (omega arith) (omega arith))
          ]
    ]

-- the pairs of what is left where one element goes
pub AllPairs-remove : {X : Type 0} (R : X → X → Type 0) (xs : List X) (i : ℕ) → i < length xs → AllPairs R xs
    → AllPairs R (remove xs i)
AllPairs-remove R xs i some pairs = λ a b d earlier short.
    let fewer : length (remove xs i) + 1 ≡ length xs = length-remove xs i some in
    elim (cases_lt b i) [
      | inl below ↦ rw (get_or-remove_below xs i d a (omega arith) some, get_or-remove_below xs i d b below some)
          (pairs a b d earlier (omega arith))
      | inr above ↦ elim (cases_lt a i) [
        | inl low ↦ rw (get_or-remove_below xs i d a low some, get_or-remove_above xs i d b above some)
            (pairs a (b + 1) d (omega arith) (omega arith))
        | inr high ↦ rw (get_or-remove_above xs i d a high some, get_or-remove_above xs i d b above some)
            (pairs (a + 1) (b + 1) d (omega arith) (omega arith))
      ]
    ]

-- the pairs where an element takes the place of one that relates to the same
pub AllPairs-set : {X : Type 0} (R : X → X → Type 0) (xs : List X) (i : ℕ) (y : X) → i < length xs → AllPairs R xs
    → ((x d : X) → R x (get_or xs i d) → R x y) → ((x d : X) → R (get_or xs i d) x → R y x) → AllPairs R (set xs i y)
AllPairs-set R xs i y some pairs before behind = λ a b d earlier short.
    let same : length (set xs i y) ≡ length xs = length-set xs i y in
    elim (cases_order a i) [
      | inl at ↦
          let apart : b ≡ i → ⊥ = λ e. omega arith in
          rw (at, get_or-set_same xs i y d some, get_or-set_other xs i b y d apart)
          (behind (get_or xs b d) d (pairs i b d (omega arith) (omega arith)))
      | inr (inl low) ↦
          let apart : a ≡ i → ⊥ = λ e. omega arith in
          elim (cases_order b i) [
            | inl at ↦ rw (at, get_or-set_same xs i y d some, get_or-set_other xs i a y d apart)
                (before (get_or xs a d) d (pairs a i d low some))
            | inr (inl below) ↦ let other : b ≡ i → ⊥ =
                λ e. omega arith in rw (get_or-set_other xs i a y d apart, get_or-set_other xs i b y d other)
                (pairs a b d earlier (omega arith))
            | inr (inr above) ↦ let other : b ≡ i → ⊥ =
                λ e. omega arith in rw (get_or-set_other xs i a y d apart, get_or-set_other xs i b y d other)
                (pairs a b d earlier (omega arith))
          ]
      | inr (inr high) ↦
          let apart : a ≡ i → ⊥ = λ e. omega arith in
          let other : b ≡ i → ⊥ = λ e. omega arith in
          rw (get_or-set_other xs i a y d apart, get_or-set_other xs i b y d other) (pairs a b d earlier (omega arith))
    ]

-- what a comparison says, and its test
pub less-is : (r : Ordering) → is_lt r ≡ true → r ≡ Less
less-is Less test = refl
less-is Equal test = absurd (false≢true test)
less-is Greater test = absurd (false≢true test)

-- the test for the same key
pub equal-is : (r : Ordering) → is_eq r ≡ true → r ≡ Equal
equal-is Less test = absurd (false≢true test)
equal-is Equal test = refl
equal-is Greater test = absurd (false≢true test)

-- what neither stands before a key nor has it stands behind it
turned : (r : Ordering) → is_lt r ≡ false → (r ≡ Equal → ⊥) → ordering_reverse r ≡ Less
turned Less test apart = absurd (false≢true (sym test))
turned Equal test apart = absurd (apart refl)
turned Greater test apart = refl

-- the elements that stand before a key come first
pub partitioned-order : {X K : Type 0} (compare : K → K → Ordering) (key_of : X → K) (key : K) (xs : List X)
    → IsTotalOrder compare → AreOrdered compare key_of xs → IsPartitionedBy (is_below compare key_of key) xs
partitioned-order compare key_of key xs total order = λ i j d within short is.
    elim (cases_lt i j) [
      | inl earlier ↦ ap is_lt (total.trans (key_of (get_or xs i d)) (key_of (get_or xs j d)) key
          (order i j d earlier short) (less-is (compare (key_of (get_or xs j d)) key) is))
      | inr same ↦ let e : i ≡ j = omega arith in rw e is
    ]

-- an element that is read with another default is the same
equal-anywhere : {X K : Type 0} (compare : K → K → Ordering) (key_of : X → K) (xs : List X) (k : ℕ) (d e : X)
    (key : K) → k < length xs → compare (key_of (get_or xs k d)) key ≡ Equal
    → compare (key_of (get_or xs k e)) key ≡ Equal
equal-anywhere compare key_of xs k d e key short equal =
    ap (λ x. compare (key_of x) key) (get_or_default xs k e d short) ∙ equal

-- an element put where its key belongs keeps the order, where no other has its key
pub ordered-insert : {X K : Type 0} (compare : K → K → Ordering) (key_of : X → K) (xs : List X) (i : ℕ) (y : X)
    → IsTotalOrder compare → AreOrdered compare key_of xs → i ≤ length xs
    → IsPartitionPoint (λ x. is_below compare key_of (key_of y) x ≡ true)
    (λ x. is_below compare key_of (key_of y) x ≡ false) xs i
    → ¬ (HasKey compare key_of (key_of y) xs) → AreOrdered compare key_of (insert xs i y)
ordered-insert compare key_of xs i y total order within parts new =
    AllPairs-insert (λ one other. compare (key_of one) (key_of other) ≡ Less) xs i y within order
    (λ k d from to. less-is (compare (key_of (get_or xs k d)) (key_of y)) (parts.0 k d from to))
    (λ k d from to.
    total.antisymm (key_of y) (key_of (get_or xs k d))
    ∙ turned (compare (key_of (get_or xs k d)) (key_of y)) (parts.1 k d from to)
    (λ equal. new (
      k,
      record {
        within = to;
        same = λ e. equal-anywhere compare key_of xs k d e (key_of y)
            to equal;
      },
    )))

-- so it is of the element for whose key a place was looked up
pub ordered-added : {X K : Type 0} (compare : K → K → Ordering) (key_of : X → K) (key : K) (elements : List X)
    (element : X) (place : ℕ)
    → IsTotalOrder compare
    → AreOrdered compare key_of elements
    → key ≡ key_of element
    → place ≤ length elements
    → PartsAt compare key_of key elements place
    → ¬ (HasKey compare key_of key elements)
    → AreOrdered compare key_of (insert elements place element)
ordered-added compare key_of key elements element place total order is within parts new =
    ordered-insert compare key_of elements place element total order within
    (rw is at (parts (partitioned-order compare key_of key elements total order)))
    (rw is at new)

-- an element of another's key in its place keeps the order
pub ordered-set : {X K : Type 0} (compare : K → K → Ordering) (key_of : X → K) (xs : List X) (i : ℕ) (y : X)
    → AreOrdered compare key_of xs → i < length xs
    → HoldsAt (λ other. key_of y ≡ key_of other) xs i → AreOrdered compare key_of (set xs i y)
ordered-set compare key_of xs i y order some same =
    AllPairs-set (λ one other. compare (key_of one) (key_of other) ≡ Less) xs i y some order
    (λ x d below. ap (λ k. compare (key_of x) k) (same d) ∙ below)
    (λ x d below. ap (λ k. compare k (key_of x)) (same d) ∙ below)

-- a list that isn't empty has an element
some-element : {X : Type 0} (xs : List X) → 0 < length xs → X
some-element [] some = absurd (omega arith)
some-element (x ∷ xs) some = x

-- no place has the key, where the key's own place has it not
none-at : {X K : Type 0} (compare : K → K → Ordering) (key_of : X → K) (key : K) (xs : List X) (i j : ℕ) (d : X)
    → IsTotalOrder compare → AreOrdered compare key_of xs
    → IsPartitionPoint (λ x. is_below compare key_of key x ≡ true) (λ x. is_below compare key_of key x ≡ false) xs i
    → (i < length xs → compare (key_of (get_or xs i d)) key ≡ Equal → ⊥) → j < length xs
    → compare (key_of (get_or xs j d)) key ≡ Equal → ⊥
none-at compare key_of key xs i j d total order parts apart short equal =
    elim (cases_lt j i) [
      | inl low ↦ false≢true (sym (ap is_lt equal) ∙ parts.0 j d (omega arith) low)
      | inr high ↦ elim (cases_lt i j) [
        | inl later ↦
            let below = sym (alike_right total (key_of (get_or xs j d)) key (key_of (get_or xs i d)) equal)
            ∙ order i j d later short in
            false≢true (sym (parts.1 i d (omega arith) (omega arith)) ∙ ap is_lt below)
        | inr same ↦ let e : j ≡ i = omega arith in apart (omega arith)
            (ap (λ n. compare (key_of (get_or xs n d)) key) (sym e) ∙ equal)
      ]
    ]

-- where the element at a key's place hasn't the key, none has
pub none-has : {X K : Type 0} (compare : K → K → Ordering) (key_of : X → K) (key : K) (xs : List X) (i : ℕ)
    → IsTotalOrder compare → AreOrdered compare key_of xs
    → IsPartitionPoint (λ x. is_below compare key_of key x ≡ true) (λ x. is_below compare key_of key x ≡ false) xs i
    → ((d : X) → i < length xs → compare (key_of (get_or xs i d)) key ≡ Equal → ⊥) → ¬ (HasKey compare key_of key xs)
none-has compare key_of key xs i total order parts apart = λ has.
    let d = some-element xs (omega (arith, has.1.within)) in
    none-at compare key_of key xs i has.0 d total order parts (apart d) has.1.within (has.1.same d)

-- the parts before and behind a key's place, as they are read
pub parted-keys : {X K : Type 0} (compare : K → K → Ordering) (key_of : X → K) (key : K) (xs : List X) (i : ℕ)
    → IsPartitionPoint (λ x. is_below compare key_of key x ≡ true) (λ x. is_below compare key_of key x ≡ false) xs i
    → IsPartitionPoint (λ x. compare (key_of x) key ≡ Less) (λ x. ¬ (compare (key_of x) key ≡ Less)) xs i
parted-keys compare key_of key xs i parts = (
  λ k d from to. less-is (compare (key_of (get_or xs k d)) key) (parts.0 k d from to),
  λ k d from to. λ below. false≢true (sym (parts.1 k d from to) ∙ ap is_lt below),
)
