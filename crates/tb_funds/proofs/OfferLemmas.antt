-- Offers in a list by their sellers and numbers.
use Rattle.std.proofs.Common.{◌≡◌, ℕ, zero, suc, ◌+◌, ◌<◌, Bool, true, false, cond, ◌&&◌, ◌||◌, ◌==◌, nat_lt, Option}
use Rattle.std.proofs.Common.{Some, None, List, [], ◌∷◌, length, get_or, set, insert, All, AllPairs, Ordering, refl, ap}
use Rattle.std.proofs.Common.{sym, ◌∙◌, inl, inr, arith}
use Rattle.std.specs.Ordering.{nat_cmp, ordering_then}
use Rattle.std.specs.declared.cmp.Ordering.TheVariants.{Less, Equal}
use Rattle.std.proofs.lemmas.Bool.{cases_Bool, false≢true}
use Rattle.std.proofs.lemmas.Bool.Decides.{nat_tests}
use Rattle.std.proofs.lemmas.List.{get_or_default}
use Rattle.std.proofs.lemmas.List.Sums.{sum_by-set, sum_by-insert}
use Rattle.tb_units.proofs.ListLemmas.{AllPairs-head, AllPairs-tail}
use Rattle.tb_blocks.specs.Orders.{HasKey, HasKeyAt}
use Rattle.tb_funds.specs.declared.offer.KeptOffer.{KeptOffer}
use Rattle.tb_funds.specs.Amounts.{part}
use Rattle.tb_funds.specs.Offers.{OffersAreInOrder, Puts, is_open_of, offer_in, open_in}

-- the order of sellers and numbers
abbrev pub order : ℕ × ℕ → ℕ × ℕ → Ordering
order one other = ordering_then (nat_cmp one.0 other.0) (nat_cmp one.1 other.1)

-- the one pair stands before the other
abbrev pub before : ℕ × ℕ → ℕ × ℕ → Bool
before one other = nat_lt one.0 other.0 || (one.0 == other.0 && nat_lt one.1 other.1)

-- the pairs are one
abbrev pub is : ℕ × ℕ → ℕ × ℕ → Bool
is one other = one.0 == other.0 && one.1 == other.1

-- the pair of an offer
abbrev pub key_of : KeptOffer → ℕ × ℕ
key_of kept = (kept.seller, kept.number)

-- a lesser pair stands before
less-before : (one other : ℕ × ℕ) → order one other ≡ Less → before one other ≡ true
less-before one other less = grind (arith, nat_tests)

-- an equal pair is the same
pub equal-is : (one other : ℕ × ℕ) → order one other ≡ Equal → is one other ≡ true
equal-is one other equal = grind (arith, nat_tests)

-- and the same pair is equal
pub is-equal : (one other : ℕ × ℕ) → is one other ≡ true → order one other ≡ Equal
is-equal one other same = grind (arith, nat_tests)

-- what stands before what has a key hasn't it
apart : (one other key : ℕ × ℕ) → before one other ≡ true → is other key ≡ true → is one key ≡ false
apart one other key earlier own = grind (arith, nat_tests)

-- nor has what stands behind it
apart_behind : (one other key : ℕ × ℕ) → before one other ≡ true → is one key ≡ true → is other key ≡ false
apart_behind one other key earlier own = grind (arith, nat_tests)

-- one key is as good as the same
alike : (one other key : ℕ × ℕ) → is one other ≡ true → is one key ≡ is other key
alike one other key same = grind (arith, nat_tests)

-- and so are two that have one
both_are : (one other key : ℕ × ℕ) → is one key ≡ true → is other key ≡ true → is one other ≡ true
both_are one other key first second = grind (arith, nat_tests)

-- offers in the order of their keys
pub in_order-from : (offers : List KeptOffer)
    → AllPairs (λ one later. order (key_of one) (key_of later) ≡ Less) offers
    → OffersAreInOrder offers
in_order-from offers ordered = λ i j d earlier short.
    less-before (key_of (get_or offers i d)) (key_of (get_or offers j d)) (ordered i j d earlier short)

-- what stands at the place of a key is found by it
pub found-at : (key : ℕ × ℕ) (offers : List KeptOffer) (place : ℕ) (d : KeptOffer)
    → OffersAreInOrder offers
    → place < length offers
    → is (key_of (get_or offers place d)) key ≡ true
    → offer_in key.0 key.1 offers ≡ Some (get_or offers place d)
found-at key [] place d in_order within own = absurd (omega (arith, within))
found-at key (x ∷ offers) zero d in_order within own = rw own refl
found-at key (x ∷ offers) (suc place) d in_order within own =
    let R : KeptOffer → KeptOffer → Type 0 = λ one later. before (key_of one) (key_of later) ≡ true in
    let short : place < length offers = omega (arith, within) in
    let other : is (key_of x) key ≡ false =
    apart (key_of x) (key_of (get_or offers place d)) key (AllPairs-head R x offers in_order place d short) own in
    rw other (found-at key offers place d (AllPairs-tail R x offers in_order) short own)

-- an offer that has the key at a place
pub found-there : (key : ℕ × ℕ) (offers : List KeptOffer) (place : ℕ) (d : KeptOffer)
    → OffersAreInOrder offers
    → HasKeyAt order key_of key offers place
    → offer_in key.0 key.1 offers ≡ Some (get_or offers place d)
found-there key offers place d in_order has =
    found-at key offers place d in_order has.within (equal-is (key_of (get_or offers place d)) key (has.same d))

-- where none has the key, none is of it
none-of : (key : ℕ × ℕ) (offers : List KeptOffer)
    → ¬ (HasKey order key_of key offers)
    → All (λ kept. is (key_of kept) key ≡ false) offers
none-of key offers lacks = λ k d short.
    elim (cases_Bool (is (key_of (get_or offers k d)) key)) [
      | inl own ↦ absurd (lacks (
        k,
        record {
          within = short;
          same = λ e. ap (λ (x : KeptOffer). order (key_of x) key) (get_or_default offers k e d short)
              ∙ is-equal (key_of (get_or offers k d)) key own;
        },
      ))
      | inr other ↦ other
    ]

-- and none is found
find-none : (key : ℕ × ℕ) (offers : List KeptOffer)
    → All (λ kept. is (key_of kept) key ≡ false) offers
    → offer_in key.0 key.1 offers ≡ None
find-none key [] none = refl
find-none key (x ∷ offers) none =
    rw (none 0 x (omega arith)) (find-none key offers (λ k d short. none (suc k) d (omega (arith, short))))

-- where none has it none is found
pub found-none : (key : ℕ × ℕ) (offers : List KeptOffer)
    → ¬ (HasKey order key_of key offers)
    → offer_in key.0 key.1 offers ≡ None
found-none key offers lacks = find-none key offers (none-of key offers lacks)

-- what is found by no key has it nowhere
pub lacks-key : (key : ℕ × ℕ) (offers : List KeptOffer)
    → OffersAreInOrder offers
    → offer_in key.0 key.1 offers ≡ None
    → ¬ (HasKey order key_of key offers)
lacks-key key [] in_order none = λ has. omega (arith, has.1.within)
lacks-key key (x ∷ offers) in_order none = λ has.
    let found = found-there key (x ∷ offers) has.0 x in_order has.1 in
    let wrong : None ≡ Some (get_or (x ∷ offers) has.0 x) = sym none ∙ found in
    absurd (cc)

-- of two of which only one has a key either may be looked at first
either : (x : KeptOffer) (key : ℕ × ℕ) (kept : KeptOffer) (found : Option KeptOffer)
    → is (key_of x) (key_of kept) ≡ false
    → cond (is (key_of x) key) (Some x) (cond (is (key_of kept) key) (Some kept) found)
    ≡ cond (is (key_of kept) key) (Some kept) (cond (is (key_of x) key) (Some x) found)
either x key kept found differs =
    elim (cases_Bool (is (key_of x) key)) [
      | inl one ↦
          elim (cases_Bool (is (key_of kept) key)) [
            | inl two ↦ absurd (false≢true (sym differs ∙ both_are (key_of x) (key_of kept) key one two))
            | inr other ↦ rw (one, other) refl
          ]
      | inr other ↦ rw other refl
    ]

-- an offer that is written over another of its key
pub Puts-written : (offers : List KeptOffer) (place : ℕ) (kept d : KeptOffer)
    → OffersAreInOrder offers
    → place < length offers
    → is (key_of (get_or offers place d)) (key_of kept) ≡ true
    → Puts kept offers (set offers place kept)
Puts-written [] place kept d in_order within own = absurd (omega (arith, within))
Puts-written (x ∷ offers) zero kept d in_order within own = λ seller number.
    let key : ℕ × ℕ = (seller, number) in
    elim (cases_Bool (is (key_of kept) key)) [
      | inl mine ↦ rw mine refl
      | inr other ↦ rw (other, alike (key_of x) (key_of kept) key own ∙ other) refl
    ]
Puts-written (x ∷ offers) (suc place) kept d in_order within own = λ seller number.
    let key : ℕ × ℕ = (seller, number) in
    let R : KeptOffer → KeptOffer → Type 0 = λ one later. before (key_of one) (key_of later) ≡ true in
    let short : place < length offers = omega (arith, within) in
    let rest = Puts-written offers place kept d (AllPairs-tail R x offers in_order) short own seller number in
    let old = get_or offers place d in
    let differs : is (key_of x) (key_of kept) ≡ false =
    apart (key_of x) (key_of old) (key_of kept) (AllPairs-head R x offers in_order place d short) own in
    ap (λ (found : Option KeptOffer). cond (is (key_of x) key) (Some x) found) rest
    ∙ either x key kept (offer_in seller number offers) differs

-- an offer that is put in among others
pub Puts-inserted : (offers : List KeptOffer) (place : ℕ) (kept : KeptOffer)
    → All (λ x. is (key_of x) (key_of kept) ≡ false) offers
    → Puts kept offers (insert offers place kept)
Puts-inserted offers zero kept none = λ seller number. refl
Puts-inserted [] (suc place) kept none = λ seller number. refl
Puts-inserted (x ∷ offers) (suc place) kept none = λ seller number.
    let key : ℕ × ℕ = (seller, number) in
    let rest = Puts-inserted offers place kept (λ k d short. none (suc k) d (omega (arith, short))) seller number in
    ap (λ (found : Option KeptOffer). cond (is (key_of x) key) (Some x) found) rest
    ∙ either x key kept (offer_in seller number offers) (none 0 x (omega arith))

-- by what nothing has
pub Puts-new : (offers : List KeptOffer) (place : ℕ) (kept : KeptOffer)
    → ¬ (HasKey order key_of (key_of kept) offers)
    → Puts kept offers (insert offers place kept)
Puts-new offers place kept lacks = Puts-inserted offers place kept (none-of (key_of kept) offers lacks)

-- how many are open, with one more
pub open_in-inserted : (seller place : ℕ) (offers : List KeptOffer) (kept : KeptOffer)
    → open_in seller (insert offers place kept) ≡ open_in seller offers + part (is_open_of seller kept) 1
open_in-inserted seller place offers kept =
    sum_by-insert (λ (x : KeptOffer). cond (is_open_of seller x) 1 0) offers place kept

-- and with another in its place
pub open_in-written : (seller place : ℕ) (offers : List KeptOffer) (kept d : KeptOffer)
    → place < length offers
    → open_in seller (set offers place kept) + part (is_open_of seller (get_or offers place d)) 1
    ≡ open_in seller offers + part (is_open_of seller kept) 1
open_in-written seller place offers kept d within =
    sum_by-set (λ (x : KeptOffer). cond (is_open_of seller x) 1 0) offers place kept d within
