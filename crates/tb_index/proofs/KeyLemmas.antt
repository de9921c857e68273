-- Elements of a list that is in the order of keys, as it is changed.
use Rattle.std.proofs.Common.{◌≡◌, ℕ, ◌+◌, ◌-◌, ◌<◌, ◌≤◌, map, Bool, true, false, cond, is_some, Option, Some, None, List, ◌∷◌, inl, inr, length, get_or, take, drop, arith, sym, ap, ◌∙◌}
use Rattle.std.specs.List.{All, insert, remove, count_by, position}
use Rattle.std.specs.Option.{IfSome}
use Rattle.std.specs.Result.{IsOk, OnOk}
use Rattle.std.specs.declared.result.Result.{Result}
use Rattle.std.specs.declared.result.Result.TheVariants.{Ok, Err}
use Rattle.std.specs.Ordering.{is_eq, is_lt}
use Rattle.std.specs.Cmp.{IsEquivalence, IsTotalOrder}
use Rattle.std.specs.declared.cmp.Ordering.{Ordering}
use Rattle.std.specs.declared.cmp.Ordering.TheVariants.{Equal}
use Rattle.std.proofs.lemmas.Bool.{cases_Bool, cases_order, cases_lt, false≢true}
use Rattle.std.proofs.lemmas.Cmp.{tied_back}
use Rattle.std.proofs.lemmas.List.Elements.{All-append, All-cons, All-take, All-drop}
use Rattle.std.proofs.lemmas.List.Folds.{fold-map}
use Rattle.std.proofs.lemmas.List.Edits.{length-insert, get_or-insert_below, get_or-insert_at, get_or-insert_above, length-remove, get_or-remove_below, get_or-remove_above}
use Rattle.tb_blocks.specs.Orders.{AreOrdered, HasKey}
use Rattle.tb_index.specs.Indexes.{first_of, number_of, tied}
use Rattle.tb_index.proofs.PositionLemmas.{position-map, position-agree}

-- what holds of each element holds with one more
pub All-insert : {X : Type 0} (P : X → Type 0) (xs : List X) (i : ℕ) (y : X) → All P xs → P y → All P (insert xs i y)
All-insert P xs i y each new =
    All-append P (take i xs) (y ∷ drop i xs) (All-take P i xs each)
    (All-cons P y (drop i xs) new (All-drop P i xs each))

-- a key that an element has is there with one more element
pub HasKey-insert : {X K : Type 0} (compare : K → K → Ordering) (key_of : X → K) (key : K) (xs : List X) (i : ℕ) (y : X)
    → i ≤ length xs
    → HasKey compare key_of key xs
    → HasKey compare key_of key (insert xs i y)
HasKey-insert compare key_of key xs i y within has =
    let more : length (insert xs i y) ≡ length xs + 1 = length-insert xs i y within in
    elim (cases_lt has.0 i) [
      | inl below ↦ (
        has.0,
        record {
          within = omega (arith, more, has.1.within);
          same = λ d. ap (λ x. compare (key_of x) key) (get_or-insert_below xs i y d has.0 below within) ∙ has.1.same d;
        },
      )
      | inr above ↦ (
        has.0 + 1,
        record {
          within = omega (arith, more, has.1.within);
          same = λ d. ap (λ x. compare (key_of x) key) (get_or-insert_above xs i y d has.0 above within) ∙ has.1.same d;
        },
      )
    ]

-- and the new element has its own
pub HasKey-inserted : {X K : Type 0} (compare : K → K → Ordering) (key_of : X → K) (key : K) (xs : List X) (i : ℕ)
    (y : X)
    → i ≤ length xs
    → compare (key_of y) key ≡ Equal
    → HasKey compare key_of key (insert xs i y)
HasKey-inserted compare key_of key xs i y within equal = (
  i,
  record {
    within = omega (arith, length-insert xs i y within);
    same = λ d. ap (λ x. compare (key_of x) key) (get_or-insert_at xs i y d within) ∙ equal;
  },
)

-- a key that an element at another place has is still there once one is taken out
pub HasKey-remove : {X K : Type 0} (compare : K → K → Ordering) (key_of : X → K) (key : K) (xs : List X) (i : ℕ)
    → i < length xs
    → (has : HasKey compare key_of key xs)
    → (has.0 ≡ i → ⊥)
    → HasKey compare key_of key (remove xs i)
HasKey-remove compare key_of key xs i some has apart =
    let fewer : length (remove xs i) + 1 ≡ length xs = length-remove xs i some in
    elim (cases_order has.0 i) [
      | inl at ↦ absurd (apart at)
      | inr (inl below) ↦ (
        has.0,
        record {
          within = omega (arith, fewer, below, some);
          same = λ d. ap (λ x. compare (key_of x) key) (get_or-remove_below xs i d has.0 below some) ∙ has.1.same d;
        },
      )
      | inr (inr above) ↦
          let later : has.0 ≡ (has.0 - 1) + 1 = omega arith in (
            has.0 - 1,
            record {
              within = omega (arith, fewer, above, has.1.within);
              same = λ d. ap (λ x. compare (key_of x) key)
                  (get_or-remove_above xs i d (has.0 - 1) (omega arith) some ∙ ap (λ k. get_or xs k d) (sym later))
                  ∙ has.1.same d;
            },
          )
    ]

-- a test of a key passes just where the keys are equal
pub same-true : {K : Type 0} (compare : K → K → Ordering) (one other : K)
    → compare one other ≡ Equal
    → is_eq (compare one other) ≡ true
same-true compare one other equal = ap is_eq equal

-- elements at two places of an ordered list have different keys
pub ordered-apart : {X K : Type 0} (compare : K → K → Ordering) (key_of : X → K) (xs : List X) (i j : ℕ) (d : X)
    → IsTotalOrder compare
    → AreOrdered compare key_of xs
    → i < length xs
    → j < length xs
    → (i ≡ j → ⊥)
    → compare (key_of (get_or xs i d)) (key_of (get_or xs j d)) ≡ Equal
    → ⊥
ordered-apart compare key_of xs i j d total order first second apart equal =
    elim (cases_order i j) [
      | inl at ↦ apart at
      | inr (inl below) ↦
          let less = order i j d below second in
          false≢true (sym (ap is_lt equal) ∙ ap is_lt less)
      | inr (inr above) ↦
          let less = order j i d above first in
          let back = tied_back total (key_of (get_or xs i d)) (key_of (get_or xs j d)) equal in
          false≢true (sym (ap is_lt back) ∙ ap is_lt less)
    ]

-- a value that is there is as is said of it
pub some-value : {X : Type 0} (P : X → Type 0) (found : Option X)
    → is_some found ≡ true
    → IfSome found P
    → (x : X) × P x
some-value P None is says = absurd (false≢true is)
some-value P (Some x) is says = (x, says)

-- a value of which it is wrong that it isn't there is there
pub is-there : {X : Type 0} {A : Type 0} (found : Option X) → (is_some found ≡ false → ¬ A) → A → is_some found ≡ true
is-there found lacks has =
    elim (cases_Bool (is_some found)) [
      | inl some ↦ some
      | inr none ↦ absurd (lacks none has)
    ]

-- and as both of two things are said of it
pub some-both : {X : Type 0} (P Q : X → Type 0) (found : Option X)
    → is_some found ≡ true
    → IfSome found P
    → IfSome found Q
    → (x : X) × P x × Q x
some-both P Q None is first second = absurd (false≢true is)
some-both P Q (Some x) is first second = (x, first, second)

-- two keys are equal just where their order says so
abbrev pub Matches : {K : Type 0} → (K → K → Bool) → (K → K → Ordering) → Type 0
Matches {K} same compare = (one other : K) → same one other ≡ is_eq (compare one other)

-- what holds where it succeeds holds where it is sure to succeed
pub at-ok : {X Y : Type 0} (P : Type 0) (result : Result X Y) → IsOk result → OnOk result P → P
at-ok P (Ok x) sure at = at
at-ok P (Err e) sure at = absurd (false≢true sure)

-- so the first place of a key is the same by its order
pub first_of-tied : {K : Type 0} (same : K → K → Bool) (compare : K → K → Ordering) (key : K) (keys : List K)
    → Matches same compare
    → first_of (tied compare) key keys ≡ first_of same key keys
first_of-tied same compare key keys matches =
    position-agree (λ other. is_eq (compare other key)) (λ other. same other key) keys
    (λ other. sym (matches other key))

-- equal keys are equal to the same ones
pub alike : {K : Type 0} {same : K → K → Bool} → IsEquivalence same
    → (one other key : K)
    → same one other ≡ true
    → same key one ≡ same key other
alike laws one other key equal = laws.symm key one ∙ (laws.congr one other key equal ∙ laws.symm other key)

-- the first place of a key among those of rows is that of the first row that has it
pub first_of-rows : {X K : Type 0} (same : K → K → Bool) (key_of : X → K) (key : K) (rows : List X)
    → first_of same key (map key_of rows) ≡ position (λ row. same (key_of row) key) rows
first_of-rows same key_of key rows = position-map (λ other. same other key) key_of rows

-- a key stands among those of rows as often as rows have it
pub number_of-rows : {X K : Type 0} (same : K → K → Bool) (key_of : X → K) (key : K) (rows : List X)
    → number_of same key (map key_of rows) ≡ count_by (λ row. same (key_of row) key) rows
number_of-rows same key_of key rows = fold-map (λ n other. n + cond (same other key) 1 0) key_of 0 rows
