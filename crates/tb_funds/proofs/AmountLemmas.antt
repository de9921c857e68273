-- Amounts in a list by their numbers.
use Rattle.std.proofs.Common.{◌≡◌, ◌≢◌, ℕ, zero, suc, ◌+◌, ◌-◌, ◌<◌, ◌≤◌, Bool, true, false, cond, ◌==◌, List, [], ◌∷◌}
use Rattle.std.proofs.Common.{length, get_or, set, insert, sum_by, All, refl, ap, sym, ◌∙◌, arith, eq-eqb}
use Rattle.std.specs.Ordering.{nat_cmp}
use Rattle.std.specs.declared.cmp.Ordering.TheVariants.{Less, Equal}
use Rattle.std.proofs.lemmas.Bool.{cond-true, cond-false, false_from_ne_true, eqb-true}
use Rattle.std.proofs.lemmas.Bool.Decides.{nat_tests}
use Rattle.std.proofs.lemmas.List.{get_or_default}
use Rattle.std.proofs.lemmas.List.Sums.{sum_by-cons, sum_by-set, sum_by-insert}
use Rattle.tb_units.proofs.ListLemmas.{AllPairs-head, AllPairs-tail}
use Rattle.tb_units.proofs.SumLemmas.{cond-le, sum_by-filter, sum_by-filter-cons}
use Rattle.tb_blocks.specs.Orders.{HasKey, HasKeyAt}
use Rattle.tb_funds.specs.declared.amount.Amount.{Amount}
use Rattle.tb_funds.specs.Amounts.{AreInOrder, amount_in, total_in, part}

-- equal numbers are one
pub cmp-equal : (one other : ℕ) → nat_cmp one other ≡ Equal → one ≡ other
cmp-equal one other equal = grind (arith, nat_tests)

-- and one number is equal to itself
pub cmp-same : (one other : ℕ) → one ≡ other → nat_cmp one other ≡ Equal
cmp-same one other same = grind (arith, nat_tests)

-- a lesser number is less
pub cmp-less : (one other : ℕ) → nat_cmp one other ≡ Less → one < other
cmp-less one other less = grind (arith, nat_tests)

-- the number's part of an amount
abbrev share : ℕ → Amount → ℕ
share key amount = cond (amount.key == key) amount.value 0

-- what stands under a number, as a sum over all
amount_in-shares : (key : ℕ) (amounts : List Amount) → amount_in key amounts ≡ sum_by (share key) amounts
amount_in-shares key amounts = sum_by-filter (λ amount. amount.value) (λ amount. amount.key == key) amounts

-- nothing stands under a number that isn't there
pub amount_in-none : (key : ℕ) (amounts : List Amount)
    → All (λ amount. amount.key ≢ key) amounts
    → amount_in key amounts ≡ 0
amount_in-none key [] others = refl
amount_in-none key (x ∷ amounts) others =
    let isnt : (x.key == key) ≡ false =
    false_from_ne_true _ (λ is. others 0 x (omega arith) (eqb-true x.key key is)) in
    omega (
      arith,
      sum_by-filter-cons (λ (amount : Amount). amount.value) (λ (amount : Amount). amount.key == key) x amounts,
      cond-false {A = ℕ} (x.key == key) x.value 0 isnt,
      amount_in-none key amounts (λ k d short. others (suc k) d (omega (arith, short))),
    )

-- what stands at a place with the number is all that stands under it
pub amount_in-at : (key : ℕ) (amounts : List Amount) (place : ℕ) (d : Amount)
    → AreInOrder amounts
    → place < length amounts
    → (get_or amounts place d).key ≡ key
    → amount_in key amounts ≡ (get_or amounts place d).value
amount_in-at key [] place d in_order within own = absurd (omega (arith, within))
amount_in-at key (x ∷ amounts) zero d in_order within own =
    let R : Amount → Amount → Type 0 = λ one later. nat_cmp one.key later.key ≡ Less in
    let is : (x.key == key) ≡ true = eq-eqb x.key key own in
    let rest : amount_in key amounts ≡ 0 =
    amount_in-none key amounts
    (λ k e short same. omega (
      arith,
      cmp-less x.key (get_or amounts k e).key (AllPairs-head R x amounts in_order k e short),
      own,
      same,
    )) in
    omega (
      arith,
      sum_by-filter-cons (λ (amount : Amount). amount.value) (λ (amount : Amount). amount.key == key) x amounts,
      cond-true {A = ℕ} (x.key == key) x.value 0 is,
      rest,
    )
amount_in-at key (x ∷ amounts) (suc place) d in_order within own =
    let R : Amount → Amount → Type 0 = λ one later. nat_cmp one.key later.key ≡ Less in
    let short : place < length amounts = omega (arith, within) in
    let less = cmp-less x.key (get_or amounts place d).key (AllPairs-head R x amounts in_order place d short) in
    let isnt : (x.key == key) ≡ false =
    false_from_ne_true _ (λ is. omega (arith, less, own, eqb-true x.key key is)) in
    omega (
      arith,
      sum_by-filter-cons (λ (amount : Amount). amount.value) (λ (amount : Amount). amount.key == key) x amounts,
      cond-false {A = ℕ} (x.key == key) x.value 0 isnt,
      amount_in-at key amounts place d (AllPairs-tail R x amounts in_order) short own,
    )

-- the amount at the place of a number
pub amount_in-found : (key : ℕ) (amounts : List Amount) (place : ℕ) (x : Amount)
    → AreInOrder amounts
    → HasKeyAt nat_cmp (λ (amount : Amount). amount.key) key amounts place
    → x ≡ get_or amounts place x
    → x.value ≡ amount_in key amounts
amount_in-found key amounts place x in_order has read =
    ap (λ (amount : Amount). amount.value) read
    ∙ sym (amount_in-at key amounts place x in_order has.within (cmp-equal _ key (has.same x)))

-- where nothing has the number nothing stands under it
pub amount_in-lacks : (key : ℕ) (amounts : List Amount)
    → ¬ (HasKey nat_cmp (λ (amount : Amount). amount.key) key amounts)
    → amount_in key amounts ≡ 0
amount_in-lacks key amounts lacks =
    amount_in-none key amounts (λ k d short same. lacks (
      k,
      record {
        within = short;
        same = λ e. cmp-same (get_or amounts k e).key key
            (ap (λ (amount : Amount). amount.key) (get_or_default amounts k e d short) ∙ same);
      },
    ))

-- another amount at the place of a number
pub amount_in-written : (key other place : ℕ) (amounts : List Amount) (x : Amount)
    → AreInOrder amounts
    → HasKeyAt nat_cmp (λ (amount : Amount). amount.key) key amounts place
    → x.key ≡ key
    → amount_in other (set amounts place x) + part (key == other) (amount_in key amounts)
    ≡ amount_in other amounts + part (key == other) x.value
amount_in-written key other place amounts x in_order has own =
    let old = get_or amounts place x in
    let old_key : old.key ≡ key = cmp-equal old.key key (has.same x) in
    let old_value = amount_in-at key amounts place x in_order has.within old_key in
    let before : share other old ≡ part (key == other) (amount_in key amounts) =
    ap (λ (n : ℕ). cond (n == other) old.value 0) old_key
    ∙ ap (λ (n : ℕ). cond (key == other) n 0) (sym old_value) in
    let after : share other x ≡ part (key == other) x.value = ap (λ (n : ℕ). cond (n == other) x.value 0) own in
    omega (
      arith,
      amount_in-shares other (set amounts place x),
      amount_in-shares other amounts,
      sum_by-set (share other) amounts place x x has.within,
      before,
      after,
    )

-- and all together
pub total_in-written : (key place : ℕ) (amounts : List Amount) (x : Amount)
    → AreInOrder amounts
    → HasKeyAt nat_cmp (λ (amount : Amount). amount.key) key amounts place
    → total_in (set amounts place x) + amount_in key amounts ≡ total_in amounts + x.value
total_in-written key place amounts x in_order has =
    let old_key = cmp-equal (get_or amounts place x).key key (has.same x) in
    omega (
      arith,
      sum_by-set (λ (amount : Amount). amount.value) amounts place x x has.within,
      amount_in-at key amounts place x in_order has.within old_key,
    )

-- an amount that is put in
pub amount_in-inserted : (other place : ℕ) (amounts : List Amount) (x : Amount)
    → amount_in other (insert amounts place x) ≡ amount_in other amounts + part (x.key == other) x.value
amount_in-inserted other place amounts x =
    omega (
      arith,
      amount_in-shares other (insert amounts place x),
      amount_in-shares other amounts,
      sum_by-insert (share other) amounts place x,
    )

-- what stands under a number is no more than all
pub amount_in-most : (key : ℕ) (amounts : List Amount) → amount_in key amounts ≤ total_in amounts
amount_in-most key [] = omega arith
amount_in-most key (x ∷ amounts) =
    omega (
      arith,
      sum_by-filter-cons (λ (amount : Amount). amount.value) (λ (amount : Amount). amount.key == key) x amounts,
      cond-le (x.key == key) x.value,
      sum_by-cons (λ (amount : Amount). amount.value) x amounts,
      amount_in-most key amounts,
    )

-- what differs by so much more under a test
pub raised : (b : Bool) (now before was more : ℕ)
    → now + part b was ≡ before + part b (was + more)
    → now ≡ before + part b more
raised true now before was more written = omega (arith, written)
raised false now before was more written = omega (arith, written)

-- and by so much less
pub lowered : (b : Bool) (now before was less : ℕ)
    → less ≤ was
    → now + part b was ≡ before + part b (was - less)
    → now + part b less ≡ before
lowered true now before was less enough written = omega (arith, enough, written)
lowered false now before was less enough written = omega (arith, written)

-- of nothing nothing is taken
pub nothing_less : (b : Bool) (amount less : ℕ) → less ≡ 0 → amount + part b less ≡ amount
nothing_less true amount less none = omega (arith, none)
nothing_less false amount less none = omega arith
