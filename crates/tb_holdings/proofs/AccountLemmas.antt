-- Accounts in order: where an account stands, and the list after it was written, taken out or put in.
use Rattle.std.proofs.Common.{◌≡◌, ℕ, ◌<◌, ◌≤◌, Bool, true, false, not, cond, ◌==◌, List, [], ◌∷◌, ◌++◌, length, get_or, drop, set, filter, insert, remove, All, AllPairs, refl, ap, ap₂, sym, ◌∙◌, inl, inr, eqb-true, true≢false, arith}
use Rattle.std.specs.List.{HoldsAt}
use Rattle.std.proofs.lemmas.Bool.{and_parts, cases_Bool, cases_eq}
use Rattle.std.proofs.lemmas.Bool.Decides.{nat_tests}
use Rattle.std.proofs.lemmas.List.{set-get_or, set_split, take-append-drop}
use Rattle.std.proofs.lemmas.List.Elements.{All-nil, All-cons, All-head, All-tail, All-append, All-filter}
use Rattle.std.proofs.lemmas.List.Kept.{AllPairs-filter}
use Rattle.tb_blocks.specs.Orders.{HasKeyAt}
use Rattle.tb_units.specs.Places.{IsPlace}
use Rattle.tb_units.proofs.ListLemmas.{AllPairs-head, AllPairs-tail, AllPairs-put, AllPairs-nil, AllPairs-one}
use Rattle.tb_units.proofs.PlaceLemmas.{IsRanked, filter_all, filter_none, take-place, drop-place_present, drop-place_missing}
use Rattle.tb_holdings.specs.declared.account.Account.{Account}
use Rattle.tb_holdings.specs.Holdings.{is_account, is_of, comes_before, comes_behind, IsEarlier, AreInOrder, HoldSomething, account_with, account_of, with_held, without}
use Rattle.tb_holdings.proofs.KeyLemmas.{IsPlace-own, IsRanked-key, before_on, equal-is, key_not_behind, other_behind, pair_order}

-- the key of an account
abbrev pub account_key : Account → ℕ × ℕ
account_key account = (account.holder, account.security)

-- the holder's account of the security stands at this place
pub record StandsAt (holder security : ℕ) (accounts : List Account) (place : ℕ) : Type 0 where
  pub first : IsPlace (comes_before holder security) accounts place
  pub within : place < length accounts
  pub same : (d : Account) → is_account holder security (get_or accounts place d) ≡ true

-- the holder has no account of the security, and one would stand at this place
pub record IsMissingAt (holder security : ℕ) (accounts : List Account) (place : ℕ) : Type 0 where
  pub first : IsPlace (comes_before holder security) accounts place
  pub other : (d : Account) → place < length accounts → is_account holder security (get_or accounts place d) ≡ false

-- an account that is the holder's, of the security, stands at its place among accounts in order
pub StandsAt-account : (holder security : ℕ) (accounts : List Account) (place : ℕ)
    → AreInOrder accounts
    → place < length accounts
    → HoldsAt (λ account. is_account holder security account ≡ true) accounts place
    → StandsAt holder security accounts place
StandsAt-account holder security accounts place in_order within own = record {
  first = IsPlace-own account_key (holder, security) accounts place in_order within own;
  within = within;
  same = own;
}

-- so does one that has the key
pub StandsAt-key : (holder security : ℕ) (accounts : List Account) (place : ℕ)
    → AreInOrder accounts
    → HasKeyAt pair_order account_key (holder, security) accounts place
    → StandsAt holder security accounts place
StandsAt-key holder security accounts place in_order has =
    StandsAt-account holder security accounts place in_order has.within
    (λ d. equal-is (account_key (get_or accounts place d)) (holder, security) (has.same d))

-- an account stands where something is held
account_of-some : (holder security held : ℕ)
    → 0 < held
    → account_of holder security held ≡ account_with holder security held ∷ []
account_of-some holder security held some = grind (arith, nat_tests)

-- and none where nothing is
account_of-none : (holder security held : ℕ) → held ≤ 0 → account_of holder security held ≡ []
account_of-none holder security held none = grind (arith, nat_tests)

-- the accounts in three parts
with_held-parts : (holder security held : ℕ) (accounts front middle back : List Account)
    → filter (comes_before holder security) accounts ≡ front
    → account_of holder security held ≡ middle
    → filter (comes_behind holder security) accounts ≡ back
    → with_held holder security held accounts ≡ front ++ (middle ++ back)
unfolding with_held
with_held-parts holder security held accounts front middle back before at behind =
    λ i. before i ++ (at i ++ behind i)

-- where the account stands it is written over
pub with_held-write : (holder security held : ℕ) (accounts : List Account) (place : ℕ)
    → AreInOrder accounts
    → StandsAt holder security accounts place
    → 0 < held
    → set accounts place (account_with holder security held) ≡ with_held holder security held accounts
with_held-write holder security held accounts place in_order stands some =
    let d : Account = account_with holder security held in
    let ranked = IsRanked-key account_key (holder, security) accounts in_order in
    let at = stands.first in
    let own = key_not_behind (account_key (get_or accounts place d)) (holder, security) (stands.same d) in
    set_split accounts place d stands.within
    ∙ sym (with_held-parts holder security held accounts _ _ _
    (take-place _ _ accounts place ranked at)
    (account_of-some holder security held some)
    (drop-place_present _ _ accounts place ranked at d stands.within own))

-- the holder's account of the security is that with what it holds
account-own : (holder security : ℕ) (account : Account)
    → is_account holder security account ≡ true
    → account ≡ account_with holder security account.held
account-own holder security account own =
    let parts = and_parts (account.holder == holder) (account.security == security) own in
    ap₂ (λ (h s : ℕ). account_with h s account.held) (eqb-true account.holder holder parts.0)
    (eqb-true account.security security parts.1)

-- written over by itself it leaves the accounts as they are
pub with_held-own : (holder security : ℕ) (accounts : List Account) (place : ℕ) (d : Account)
    → AreInOrder accounts
    → HoldSomething accounts
    → StandsAt holder security accounts place
    → accounts ≡ with_held holder security (get_or accounts place d).held accounts
with_held-own holder security accounts place d in_order used stands =
    let own : Account = get_or accounts place d in
    sym (set-get_or accounts place d)
    ∙ (ap (set accounts place) (account-own holder security own (stands.same d))
    ∙ with_held-write holder security own.held accounts place in_order stands (used place d stands.within))

-- or taken out where nothing is held any more
pub with_held-take_out : (holder security held : ℕ) (accounts : List Account) (place : ℕ)
    → AreInOrder accounts
    → StandsAt holder security accounts place
    → held ≤ 0
    → remove accounts place ≡ with_held holder security held accounts
with_held-take_out holder security held accounts place in_order stands none =
    let d : Account = account_with holder security held in
    let ranked = IsRanked-key account_key (holder, security) accounts in_order in
    let at = stands.first in
    let own = key_not_behind (account_key (get_or accounts place d)) (holder, security) (stands.same d) in
    sym (with_held-parts holder security held accounts _ _ _
    (take-place _ _ accounts place ranked at)
    (account_of-none holder security held none)
    (drop-place_present _ _ accounts place ranked at d stands.within own))

-- where there is no account, what stands behind its place are the accounts from the place on
missing_behind : (holder security : ℕ) (accounts : List Account) (place : ℕ)
    → AreInOrder accounts
    → IsMissingAt holder security accounts place
    → filter (comes_behind holder security) accounts ≡ drop place accounts
missing_behind holder security accounts place in_order missing =
    let ranked = IsRanked-key account_key (holder, security) accounts in_order in
    let at = missing.first in
    drop-place_missing _ _ accounts place ranked at
    (λ d short. other_behind (account_key (get_or accounts place d)) (holder, security) (at.stops d short)
    (missing.other d short))

-- where there is no account one is put in
pub with_held-insert : (holder security held : ℕ) (accounts : List Account) (place : ℕ)
    → AreInOrder accounts
    → IsMissingAt holder security accounts place
    → 0 < held
    → insert accounts place (account_with holder security held) ≡ with_held holder security held accounts
with_held-insert holder security held accounts place in_order missing some =
    let ranked = IsRanked-key account_key (holder, security) accounts in_order in
    sym (with_held-parts holder security held accounts _ _ _
    (take-place _ _ accounts place ranked missing.first)
    (account_of-some holder security held some)
    (missing_behind holder security accounts place in_order missing))

-- but none where nothing is held
pub with_held-keep : (holder security held : ℕ) (accounts : List Account) (place : ℕ)
    → AreInOrder accounts
    → IsMissingAt holder security accounts place
    → held ≤ 0
    → accounts ≡ with_held holder security held accounts
with_held-keep holder security held accounts place in_order missing none =
    let ranked = IsRanked-key account_key (holder, security) accounts in_order in
    sym (take-append-drop place accounts)
    ∙ sym (with_held-parts holder security held accounts _ _ _
    (take-place _ _ accounts place ranked missing.first)
    (account_of-none holder security held none)
    (missing_behind holder security accounts place in_order missing))

-- where each element stands before or behind, those make up the list
parts_whole : {X : Type 0} (before behind : X → Bool) (xs : List X)
    → IsRanked before behind xs
    → All (λ x. before x ≡ false → behind x ≡ true) xs
    → filter before xs ++ filter behind xs ≡ xs
parts_whole before behind [] ranked either = refl
parts_whole {X} before behind (x ∷ xs) ranked either =
    let P : X → Type 0 = λ y. before y ≡ false → behind y ≡ true in
    let R : X → X → Type 0 = λ y z. before y ≡ false → behind z ≡ true in
    elim (cases_Bool (before x)) [
      | inl is ↦
          let apart : behind x ≡ false = elim (cases_Bool (behind x)) [
            | inl at ↦ absurd (true≢false (sym is ∙ ranked.apart x at))
            | inr isnt ↦ isnt
          ] in
          let rest : IsRanked before behind xs =
          record { apart = ranked.apart; pairs = AllPairs-tail R x xs ranked.pairs } in
          rw (is, apart) (ap (λ ys. x ∷ ys) (parts_whole before behind xs rest (All-tail P x xs either)))
      | inr isnt ↦
          let at : behind x ≡ true = All-head P x xs either isnt in
          let all : All (λ y. behind y ≡ true) xs = λ k d short. AllPairs-head R x xs ranked.pairs k d short isnt in
          let none : All (λ y. before y ≡ false) xs = λ k d short. ranked.apart (get_or xs k d) (all k d short) in
          rw (isnt, at)
          (ap₂ (λ (ys zs : List X). ys ++ x ∷ zs) (filter_none before xs none) (filter_all behind xs all))
    ]

-- nor where there is none among the accounts
pub with_held-none : (holder security held : ℕ) (accounts : List Account)
    → AreInOrder accounts
    → All (λ account. is_account holder security account ≡ false) accounts
    → held ≤ 0
    → accounts ≡ with_held holder security held accounts
with_held-none holder security held accounts in_order others none =
    sym (with_held-parts holder security held accounts _ _ _ refl (account_of-none holder security held none) refl
    ∙ parts_whole (comes_before holder security) (comes_behind holder security) accounts
    (IsRanked-key account_key (holder, security) accounts in_order)
    (λ k d short from. other_behind (account_key (get_or accounts k d)) (holder, security) from (others k d short)))

-- what holds of the holder's account of the security holds of what stands at its place
pub All-account_of : (P : Account → Type 0) (holder security held : ℕ)
    → P (account_with holder security held)
    → All P (account_of holder security held)
All-account_of P holder security held is =
    elim (held == 0) as (λ none. All P (cond none [] (account_with holder security held ∷ []))) [
      | true ↦ All-nil P
      | false ↦ All-cons P (account_with holder security held) [] is (All-nil P)
    ]

-- what stands at the place is in order
AllPairs-account_of : (holder security held : ℕ) → AllPairs IsEarlier (account_of holder security held)
AllPairs-account_of holder security held =
    let account : Account = account_with holder security held in
    elim (held == 0) as (λ none. AllPairs IsEarlier (cond none [] (account ∷ []))) [
      | true ↦ AllPairs-nil IsEarlier
      | false ↦ AllPairs-one IsEarlier account
    ]

-- the accounts stay in order
pub AreInOrder-with_held : (holder security held : ℕ) (accounts : List Account)
    → AreInOrder accounts
    → AreInOrder (with_held holder security held accounts)
unfolding with_held
AreInOrder-with_held holder security held accounts in_order =
    let before : Account → Bool = comes_before holder security in
    let behind : Account → Bool = comes_behind holder security in
    let Below : Account → Type 0 = λ later. (one : Account) → before one ≡ true → IsEarlier one later in
    let Above : Account → Type 0 = λ one. (later : Account) → behind later ≡ true → IsEarlier one later in
    AllPairs-put IsEarlier before behind
    (account_of holder security held) accounts in_order
    (AllPairs-account_of holder security held)
    (λ one later. before_on (account_key one) (holder, security) (account_key later))
    (All-account_of Below holder security held (λ one is. is))
    (All-account_of Above holder security held (λ later is. is))

-- in a redemption too
pub AreInOrder-without : (other : ℕ) (accounts : List Account)
    → AreInOrder accounts
    → AreInOrder (without other accounts)
AreInOrder-without other accounts in_order =
    AllPairs-filter IsEarlier (λ account. not (is_of other account)) accounts in_order

-- each account still has something
pub HoldSomething-with_held : (holder security held : ℕ) (accounts : List Account)
    → HoldSomething accounts
    → HoldSomething (with_held holder security held accounts)
unfolding with_held
HoldSomething-with_held holder security held accounts used =
    let P : Account → Type 0 = λ account. 0 < account.held in
    let front : List Account = filter (comes_before holder security) accounts in
    let back : List Account = filter (comes_behind holder security) accounts in
    let middle : All P (account_of holder security held) = elim (cases_eq held 0) [
      | inl none ↦ rw (account_of-none holder security held (omega arith)) (All-nil P)
      | inr some ↦ rw (account_of-some holder security held (omega arith))
          (All-cons P (account_with holder security held) [] (omega arith) (All-nil P))
    ] in
    All-append P front (account_of holder security held ++ back)
    (All-filter (comes_before holder security) P accounts used)
    (All-append P (account_of holder security held) back middle
    (All-filter (comes_behind holder security) P accounts used))

-- after a redemption too
pub HoldSomething-without : (other : ℕ) (accounts : List Account)
    → HoldSomething accounts
    → HoldSomething (without other accounts)
HoldSomething-without other accounts used =
    All-filter (λ account. not (is_of other account)) (λ account. 0 < account.held) accounts used
