-- Keys of two numbers: what their order says of the elements of a list that have them, and of where one stands.
use Rattle.std.proofs.Common.{◌≡◌, ℕ, ◌+◌, ◌<◌, ◌≤◌, Bool, true, false, cond, ◌&&◌, ◌||◌, ◌==◌, nat_lt, Option, Some, None, List, length, get_or, insert, remove, All, AllPairs, Ordering, IfSome, IsNone, refl, ap, sym, ◌∙◌, inl, inr, arith}
use Rattle.std.specs.List.{HoldsAt}
use Rattle.std.specs.List.Sorted.{IsPartitionedBy}
use Rattle.std.specs.Ordering.{nat_cmp, ordering_then}
use Rattle.std.specs.declared.cmp.Ordering.TheVariants.{Less, Equal}
use Rattle.std.proofs.lemmas.Bool.{cases_Bool, cases_eq, cases_order, false≢true}
use Rattle.std.proofs.lemmas.Bool.Decides.{nat_tests}
use Rattle.std.proofs.lemmas.List.{get_or-take, get_or_default, length-take}
use Rattle.std.proofs.lemmas.List.Edits.{length-insert, get_or-insert_below, get_or-insert_at, get_or-insert_above}
use Rattle.tb_blocks.specs.Orders.{HasKey, HasKeyAt, IsPlaceOf, IsRemoved}
use Rattle.tb_units.specs.Places.{IsPlace}
use Rattle.tb_units.proofs.PlaceLemmas.{IsRanked}
use Rattle.tb_units.proofs.SumLemmas.{StandsOnce}
use Rattle.tb_holdings.proofs.PlaceLemmas.{IsPlace-found}

-- the order of pairs of numbers
abbrev pub pair_order : ℕ × ℕ → ℕ × ℕ → Ordering
pair_order one other = ordering_then (nat_cmp one.0 other.0) (nat_cmp one.1 other.1)

-- the one pair stands before the other
abbrev pub pair_before : ℕ × ℕ → ℕ × ℕ → Bool
pair_before one other = nat_lt one.0 other.0 || (one.0 == other.0 && nat_lt one.1 other.1)

-- the pairs are the same
abbrev pub pair_is : ℕ × ℕ → ℕ × ℕ → Bool
pair_is one other = one.0 == other.0 && one.1 == other.1

-- the elements stand in the order of their keys, and no key stands twice
abbrev pub AreKeyed : {X : Type 0} → (X → ℕ × ℕ) → List X → Type 0
AreKeyed key_of xs = AllPairs (λ one later. pair_before (key_of one) (key_of later) ≡ true) xs

-- a list was answered for another, of which what has the key was to be taken out
pub record IsTaken {X : Type 0} (key_of : X → ℕ × ℕ) (key : ℕ × ℕ) (xs rest : List X) (taken : Option X) : Type 0 where
  pub none : IsNone taken → ¬ (HasKey pair_order key_of key xs)
  pub removed : IfSome taken (λ x. IsRemoved x xs rest)
  pub same : IfSome taken (λ x. pair_order (key_of x) key ≡ Equal)

-- a lesser pair stands before
less-before : (one other : ℕ × ℕ) → pair_order one other ≡ Less → pair_before one other ≡ true
less-before one other less = grind (arith, nat_tests)

-- and one that stands before is lesser
before-less : (one other : ℕ × ℕ) → pair_before one other ≡ true → pair_order one other ≡ Less
before-less one other before = grind (arith, nat_tests)

-- an equal pair is the same
pub equal-is : (one other : ℕ × ℕ) → pair_order one other ≡ Equal → pair_is one other ≡ true
equal-is one other equal = grind (arith, nat_tests)

-- and the same pair is equal
pub is-equal : (one other : ℕ × ℕ) → pair_is one other ≡ true → pair_order one other ≡ Equal
is-equal one other is = grind (arith, nat_tests)

-- what stands before an element stands before the key that the element has
before_key : (one own key : ℕ × ℕ)
    → pair_before one own ≡ true
    → pair_is own key ≡ true
    → pair_before one key ≡ true
before_key one own key before is = grind (arith, nat_tests)

-- what has a key doesn't stand before it
key_stops : (own key : ℕ × ℕ) → pair_is own key ≡ true → pair_before own key ≡ false
key_stops own key is = grind (arith, nat_tests)

-- nor does what stands behind it
pub behind_stops : (key later : ℕ × ℕ) → pair_before key later ≡ true → pair_before later key ≡ false
behind_stops key later behind = grind (arith, nat_tests)

-- what stands behind what has a key hasn't it
pub behind_other : (own later key : ℕ × ℕ)
    → pair_before own later ≡ true
    → pair_is own key ≡ true
    → pair_is later key ≡ false
behind_other own later key behind is = grind (arith, nat_tests)

-- the order goes on over a third
pub before_on : (one key later : ℕ × ℕ)
    → pair_before one key ≡ true
    → pair_before key later ≡ true
    → pair_before one later ≡ true
before_on one key later before behind = grind (arith, nat_tests)

-- what is behind one that doesn't stand before a key stands behind the key
pub behind_next : (one key later : ℕ × ℕ)
    → pair_before one later ≡ true
    → pair_before one key ≡ false
    → pair_before key later ≡ true
behind_next one key later earlier from = grind (arith, nat_tests)

-- what has a key doesn't stand behind it
pub key_not_behind : (own key : ℕ × ℕ) → pair_is own key ≡ true → pair_before key own ≡ false
key_not_behind own key is = grind (arith, nat_tests)

-- another that doesn't stand before a key stands behind it
pub other_behind : (other key : ℕ × ℕ)
    → pair_before other key ≡ false
    → pair_is other key ≡ false
    → pair_before key other ≡ true
other_behind other key from differs = grind (arith, nat_tests)

-- what stands before a key hasn't it
pub before_differs : (one key : ℕ × ℕ) → pair_before one key ≡ true → pair_is one key ≡ false
before_differs one key before = grind (arith, nat_tests)

-- nor has what stands behind it
pub behind_differs : (key later : ℕ × ℕ) → pair_before key later ≡ true → pair_is later key ≡ false
behind_differs key later behind = grind (arith, nat_tests)

-- a pair stands before a key, has it or stands behind it
once : (one key : ℕ × ℕ)
    → cond (pair_before one key) 1 0 + cond (pair_is one key) 1 0 + cond (pair_before key one) 1 0 ≡ 1
once one key = grind (arith, nat_tests)

-- and so does each element
pub StandsOnce-key : {X : Type 0} (key_of : X → ℕ × ℕ) (key : ℕ × ℕ)
    → StandsOnce (λ x. pair_before (key_of x) key) (λ x. pair_is (key_of x) key) (λ x. pair_before key (key_of x))
StandsOnce-key key_of key = λ x. once (key_of x) key

-- keyed elements are ranked by each key
pub IsRanked-key : {X : Type 0} (key_of : X → ℕ × ℕ) (key : ℕ × ℕ) (xs : List X)
    → AreKeyed key_of xs
    → IsRanked (λ x. pair_before (key_of x) key) (λ x. pair_before key (key_of x)) xs
IsRanked-key key_of key xs keyed = record {
  apart = λ x. behind_stops key (key_of x);
  pairs = λ i j d earlier short from.
      behind_next (key_of (get_or xs i d)) key (key_of (get_or xs j d)) (keyed i j d earlier short) from;
}

-- and those before a key stand first
pub IsPartitionedBy-key : {X : Type 0} (key_of : X → ℕ × ℕ) (key : ℕ × ℕ) (xs : List X)
    → AreKeyed key_of xs
    → IsPartitionedBy (λ x. pair_before (key_of x) key) xs
IsPartitionedBy-key key_of key xs keyed = λ i j d within short before.
    elim (cases_eq i j) [
      | inl at ↦ rw at before
      | inr apart ↦
          before_on (key_of (get_or xs i d)) (key_of (get_or xs j d)) key (keyed i j d (omega arith) short) before
    ]

-- elements in the order of their keys are keyed
pub AreKeyed-order : {X : Type 0} (key_of : X → ℕ × ℕ) (xs : List X)
    → AllPairs (λ one later. pair_order (key_of one) (key_of later) ≡ Less) xs
    → AreKeyed key_of xs
AreKeyed-order key_of xs order = λ i j d earlier short.
    less-before (key_of (get_or xs i d)) (key_of (get_or xs j d)) (order i j d earlier short)

-- the place of a key parts what stands before it from the rest
pub IsPlace-key : {X : Type 0} (key_of : X → ℕ × ℕ) (key : ℕ × ℕ) (xs : List X) (place : ℕ)
    → place ≤ length xs
    → IsPlaceOf pair_order key_of key xs place
    → IsPlace (λ x. pair_before (key_of x) key) xs place
IsPlace-key key_of key xs place within point =
    IsPlace-found (λ x. pair_before (key_of x) key) xs place within (
      λ k d from to. less-before (key_of (get_or xs k d)) key (point.0 k d from to),
      λ k d from to.
          elim (cases_Bool (pair_before (key_of (get_or xs k d)) key)) [
            | inl before ↦ absurd (point.1 k d from to (before-less (key_of (get_or xs k d)) key before))
            | inr not_before ↦ not_before
          ],
    )

-- what has a key stands at the key's place
pub IsPlace-own : {X : Type 0} (key_of : X → ℕ × ℕ) (key : ℕ × ℕ) (xs : List X) (place : ℕ)
    → AreKeyed key_of xs
    → place < length xs
    → HoldsAt (λ x. pair_is (key_of x) key ≡ true) xs place
    → IsPlace (λ x. pair_before (key_of x) key) xs place
IsPlace-own key_of key xs place keyed within own = record {
  within = omega (arith, within);
  passed = λ k d short.
      let inside : k < place = omega (arith, length-take place xs, short) in
      rw (get_or-take place xs k d inside)
      (before_key (key_of (get_or xs k d)) (key_of (get_or xs place d)) key (keyed k place d inside within) (own d));
  stops = λ d short. key_stops (key_of (get_or xs place d)) key (own d);
}

-- so does what was put in among keyed elements
pub IsPlace-inserted : {X : Type 0} (key_of : X → ℕ × ℕ) (x : X) (xs : List X) (place : ℕ)
    → place ≤ length xs
    → AreKeyed key_of (insert xs place x)
    → IsPlace (λ one. pair_before (key_of one) (key_of x)) xs place
IsPlace-inserted key_of x xs place within keyed =
    let more = length-insert xs place x within in
    IsPlace-found (λ one. pair_before (key_of one) (key_of x)) xs place within (
      λ k d from to.
          rw (get_or-insert_below xs place x d k to within, get_or-insert_at xs place x d within) at
          (keyed k place d to (omega (arith, more, within))),
      λ k d from to.
          behind_stops (key_of x) (key_of (get_or xs k d))
          (rw (get_or-insert_at xs place x d within, get_or-insert_above xs place x d k from within) at
          (keyed place (k + 1) d (omega arith) (omega (arith, more, to)))),
    )

-- what has a key stands at one place
only_place : {X : Type 0} (key_of : X → ℕ × ℕ) (key : ℕ × ℕ) (xs : List X) (i j : ℕ) (d : X)
    → AreKeyed key_of xs
    → HasKeyAt pair_order key_of key xs i
    → HasKeyAt pair_order key_of key xs j
    → i ≡ j
only_place key_of key xs i j d keyed one other =
    let one_is = equal-is (key_of (get_or xs i d)) key (one.same d) in
    let other_is = equal-is (key_of (get_or xs j d)) key (other.same d) in
    elim (cases_order i j) [
      | inl at ↦ at
      | inr (inl below) ↦ absurd (false≢true (sym (behind_other (key_of (get_or xs i d)) (key_of (get_or xs j d)) key
          (keyed i j d below other.within) one_is) ∙ other_is))
      | inr (inr above) ↦ absurd (false≢true (sym (behind_other (key_of (get_or xs j d)) (key_of (get_or xs i d)) key
          (keyed j i d above one.within) other_is) ∙ one_is))
    ]

-- what has a key is taken out by it at its place
pub removed-at : {X : Type 0} (key_of : X → ℕ × ℕ) (key : ℕ × ℕ) (xs rest : List X) (place : ℕ) (taken : Option X)
    → AreKeyed key_of xs
    → HasKeyAt pair_order key_of key xs place
    → IsTaken key_of key xs rest taken
    → rest ≡ remove xs place
removed-at key_of key xs rest place None keyed has out = absurd (out.none refl (place, has))
removed-at key_of key xs rest place (Some x) keyed has out =
    let there : HasKeyAt pair_order key_of key xs out.removed.place = record {
      within = out.removed.within;
      same = λ d. ap (λ one. pair_order (key_of one) key) (out.removed.there d) ∙ out.same;
    } in
    out.removed.is ∙ ap (remove xs) (only_place key_of key xs out.removed.place place x keyed there has)

-- an element of a key has it
pub HasKeyAt-own : {X : Type 0} (key_of : X → ℕ × ℕ) (key : ℕ × ℕ) (xs : List X) (place : ℕ)
    → place < length xs
    → HoldsAt (λ x. pair_is (key_of x) key ≡ true) xs place
    → HasKeyAt pair_order key_of key xs place
HasKeyAt-own key_of key xs place within own =
    record { within = within; same = λ d. is-equal (key_of (get_or xs place d)) key (own d) }

-- an element that was read has its own key there
pub HasKeyAt-read : {X : Type 0} (key_of : X → ℕ × ℕ) (xs : List X) (place : ℕ) (x : X)
    → place < length xs
    → x ≡ get_or xs place x
    → HasKeyAt pair_order key_of (key_of x) xs place
HasKeyAt-read key_of xs place x within read = record {
  within = within;
  same = λ d.
      ap (λ one. pair_order (key_of one) (key_of x)) (sym (read ∙ get_or_default xs place x d within))
      ∙ is-equal (key_of x) (key_of x) (grind (arith, nat_tests));
}

-- where nothing has the key, no element is of it
pub none-key : {X : Type 0} (key_of : X → ℕ × ℕ) (key : ℕ × ℕ) (xs : List X)
    → ¬ (HasKey pair_order key_of key xs)
    → All (λ x. pair_is (key_of x) key ≡ false) xs
none-key key_of key xs lacks = λ k d short.
    elim (cases_Bool (pair_is (key_of (get_or xs k d)) key)) [
      | inl own ↦ absurd (lacks (
        k,
        record {
          within = short;
          same = λ e.
              ap (λ x. pair_order (key_of x) key) (get_or_default xs k e d short)
              ∙ is-equal (key_of (get_or xs k d)) key own;
        },
      ))
      | inr other ↦ other
    ]

-- and where no element is of a key, nothing has it
pub key-missing : {X : Type 0} (key_of : X → ℕ × ℕ) (key : ℕ × ℕ) (xs : List X) (d : X)
    → All (λ x. pair_is (key_of x) key ≡ false) xs
    → ¬ (HasKey pair_order key_of key xs)
key-missing key_of key xs d others = λ has.
    false≢true (sym (others has.0 d has.1.within) ∙ equal-is (key_of (get_or xs has.0 d)) key (has.1.same d))
