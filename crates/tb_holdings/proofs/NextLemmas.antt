-- The next account of a holder: what it holds nothing of before it.
use Rattle.std.proofs.Common.{◌≡◌, ℕ, ◌<◌, ◌≤◌, true, false, List, length, get_or, All, subst, inl, inr, arith}
use Rattle.std.proofs.lemmas.Bool.{cases_eq, cases_lt}
use Rattle.std.proofs.lemmas.Bool.Decides.{nat_tests}
use Rattle.std.proofs.lemmas.List.{get_or-take, get_or_default, length-take}
use Rattle.tb_units.specs.Places.{IsPlace}
use Rattle.tb_holdings.specs.declared.account.Account.{Account}
use Rattle.tb_holdings.specs.Holdings.{is_account, comes_before, comes_behind, IsEarlier, AreInOrder, HoldSomething, held_in}
use Rattle.tb_holdings.proofs.AccountLemmas.{StandsAt-account}
use Rattle.tb_holdings.proofs.HoldingLemmas.{held_in-nothing, held_in-stands}

-- what stands before a security is of none from that on
before_apart : (holder first security : ℕ) (account : Account)
    → first ≤ security
    → comes_before holder first account ≡ true
    → is_account holder security account ≡ false
before_apart holder first security account from before = grind (arith, nat_tests)

-- what stands behind a security is of another
behind_apart : (holder security : ℕ) (account : Account)
    → comes_behind holder security account ≡ true
    → is_account holder security account ≡ false
behind_apart holder security account behind = grind (arith, nat_tests)

-- and so is what follows that
behind_apart_on : (holder security : ℕ) (one later : Account)
    → IsEarlier one later
    → comes_behind holder security one ≡ true
    → is_account holder security later ≡ false
behind_apart_on holder security one later earlier behind = grind (arith, nat_tests)

-- an account of the holder isn't before the securities up to its own
from_own : (holder first : ℕ) (account : Account)
    → account.holder ≡ holder
    → comes_before holder first account ≡ false
    → first ≤ account.security
from_own holder first account own from = grind (arith, nat_tests)

-- it is behind those that are less than its own
own_behind : (holder security : ℕ) (account : Account)
    → account.holder ≡ holder
    → security < account.security
    → comes_behind holder security account ≡ true
own_behind holder security account own less = grind (arith, nat_tests)

-- an account of another that isn't before a security of the holder is behind all of them
others_behind : (holder first security : ℕ) (account : Account)
    → comes_before holder first account ≡ false
    → (account.holder ≡ holder → ⊥)
    → comes_behind holder security account ≡ true
others_behind holder first security account from other = grind (arith, nat_tests)

-- the account is its own
own_is : (holder : ℕ) (account : Account)
    → account.holder ≡ holder
    → is_account holder account.security account ≡ true
own_is holder account own = grind (arith, nat_tests)

-- where what stands at the place is behind a security the holder has no account of it
none_before : (holder first security : ℕ) (accounts : List Account) (place : ℕ)
    → AreInOrder accounts
    → IsPlace (comes_before holder first) accounts place
    → first ≤ security
    → ((d : Account) → place < length accounts → comes_behind holder security (get_or accounts place d) ≡ true)
    → All (λ account. is_account holder security account ≡ false) accounts
none_before holder first security accounts place in_order at from behind = λ k d short.
    elim (cases_lt k place) [
      | inl inside ↦
          let within = at.within in
          before_apart holder first security (get_or accounts k d) from
          (subst (λ (account : Account). comes_before holder first account ≡ true)
          (get_or-take place accounts k d inside)
          (at.passed k d (omega (arith, length-take place accounts, inside, within))))
      | inr past ↦ elim (cases_eq k place) [
        | inl here ↦
            let within : place < length accounts = omega (arith, here, short) in
            rw here (behind_apart holder security (get_or accounts place d) (behind d within))
        | inr apart ↦
            let later : place < k = omega (arith, past, apart) in
            behind_apart_on holder security (get_or accounts place d) (get_or accounts k d)
            (in_order place k d later short) (behind d (omega (arith, later, short)))
      ]
    ]

-- so it holds nothing of it
pub held_in-none : (holder first security : ℕ) (accounts : List Account) (place : ℕ)
    → AreInOrder accounts
    → IsPlace (comes_before holder first) accounts place
    → first ≤ security
    → ((d : Account) → place < length accounts → comes_behind holder security (get_or accounts place d) ≡ true)
    → held_in holder security accounts ≡ 0
held_in-none holder first security accounts place in_order at from behind =
    held_in-nothing holder security accounts
    (none_before holder first security accounts place in_order at from behind)

-- nor of the securities before that of its account at the place
pub held_in-between : (holder first security : ℕ) (accounts : List Account) (place : ℕ) (account : Account)
    → AreInOrder accounts
    → IsPlace (comes_before holder first) accounts place
    → account ≡ get_or accounts place account
    → account.holder ≡ holder
    → first ≤ security
    → security < account.security
    → held_in holder security accounts ≡ 0
held_in-between holder first security accounts place account in_order at is own from less =
    held_in-none holder first security accounts place in_order at from
    (λ d within. rw (get_or_default accounts place d account within, ← is)
    (own_behind holder security account own less))

-- nor of any from that on where another's account is at the place
pub held_in-past : (holder first security : ℕ) (accounts : List Account) (place : ℕ) (account : Account)
    → AreInOrder accounts
    → IsPlace (comes_before holder first) accounts place
    → account ≡ get_or accounts place account
    → (account.holder ≡ holder → ⊥)
    → first ≤ security
    → held_in holder security accounts ≡ 0
held_in-past holder first security accounts place account in_order at is other from =
    held_in-none holder first security accounts place in_order at from
    (λ d within. rw (get_or_default accounts place d account within, ← is)
    (others_behind holder first security account (rw (← is) at (at.stops account within)) other))

-- an account of the holder at the place is of no lesser security
pub own_from : (holder first : ℕ) (accounts : List Account) (place : ℕ) (account : Account)
    → IsPlace (comes_before holder first) accounts place
    → place < length accounts
    → account ≡ get_or accounts place account
    → account.holder ≡ holder
    → first ≤ account.security
own_from holder first accounts place account at within is own =
    from_own holder first account own (rw (← is) at (at.stops account within))

-- and the holder holds something of it
pub held_in-own_some : (holder : ℕ) (accounts : List Account) (place : ℕ) (account : Account)
    → AreInOrder accounts
    → HoldSomething accounts
    → place < length accounts
    → account ≡ get_or accounts place account
    → account.holder ≡ holder
    → 0 < held_in holder account.security accounts
held_in-own_some holder accounts place account in_order used within is own =
    let stands = StandsAt-account holder account.security accounts place in_order within
    (λ d. rw (get_or_default accounts place d account within, ← is) (own_is holder account own)) in
    omega (
      arith,
      held_in-stands holder account.security accounts place account in_order used stands,
      used place account within,
    )
