-- What each holder holds and what all together hold, after each change of the accounts.
use Rattle.std.proofs.Common.{◌≡◌, ◌≢◌, ℕ, ◌+◌, ◌-◌, ◌≤◌, Bool, true, false, not, cond, ◌&&◌, ◌==◌, if◌then◌else◌, List, All, ◌++◌, get_or, filter, sum_by, refl, ap, ap₂, sym, ◌∙◌, inl, inr, eqb-true, eq-eqb, ne_eqb, arith}
use Rattle.std.proofs.lemmas.Bool.{cases_Bool, cond-true, cond-false, and_parts, and_left, and_from}
use Rattle.std.proofs.lemmas.Bool.Decides.{nat_tests}
use Rattle.std.proofs.lemmas.List.Filters.{sum_by-filter_both}
use Rattle.std.proofs.lemmas.List.Sums.{sum_by-le-sum_by, sum_by-append}
use Rattle.tb_units.proofs.PlaceLemmas.{filter_none}
use Rattle.tb_units.proofs.SumLemmas.{sum_by-put, sum_by-filter, sum_by_agree, sum_by_none}
use Rattle.tb_holdings.specs.declared.account.Account.{Account}
use Rattle.tb_holdings.specs.Holdings.{is_account, is_of, comes_before, comes_behind, AreInOrder, HoldSomething, held_in, total_in, account_of, with_held, credited, moved, without}
use Rattle.tb_holdings.proofs.AccountLemmas.{IsMissingAt, StandsAt, account_key, with_held-keep, with_held-own}
use Rattle.tb_holdings.proofs.KeyLemmas.{StandsOnce-key}
use Rattle.tb_holdings.proofs.WalkLemmas.{IsSum}

-- what the account adds to what this holder holds of the security
abbrev pub held_share : ℕ → ℕ → Account → ℕ
held_share holder security account = cond (is_account holder security account) account.held 0

-- and to the total of the security
abbrev pub total_share : ℕ → Account → ℕ
total_share security account = cond (is_of security account) account.held 0

-- what a holder holds is the sum of its shares
held_in-shares : (holder security : ℕ) (accounts : List Account)
    → held_in holder security accounts ≡ sum_by (held_share holder security) accounts
held_in-shares holder security accounts =
    sum_by-filter (λ account. account.held) (is_account holder security) accounts

-- and so is a total
total_in-shares : (security : ℕ) (accounts : List Account)
    → total_in security accounts ≡ sum_by (total_share security) accounts
total_in-shares security accounts = sum_by-filter (λ account. account.held) (is_of security) accounts

-- so the total is a sum
pub IsSum-total : (security : ℕ) → IsSum (total_share security) (total_in security)
IsSum-total security = record { is = total_in-shares security }

-- a holder holds no more than all together
pub held_in-le-total_in : (holder security : ℕ) (accounts : List Account)
    → held_in holder security accounts ≤ total_in security accounts
held_in-le-total_in holder security accounts =
    let part = sum_by-le-sum_by (held_share holder security) (total_share security) accounts
    (λ account. grind (arith, nat_tests)) in
    omega (arith, held_in-shares holder security accounts, total_in-shares security accounts, part)

-- shares that count under one test sum to their sum, or to nothing
kept_share : (test : Bool) (share : Account → ℕ) (accounts : List Account)
    → sum_by (λ account. cond test (share account) 0) accounts ≡ cond test (sum_by share accounts) 0
kept_share true share accounts = refl
kept_share false share accounts = sum_by_none accounts

-- of one holder's account another's share is nothing
held_share-other : (holder security other other_security : ℕ) (account : Account)
    → cond (is_account holder security account) (held_share other other_security account) 0
    ≡ cond (other == holder && other_security == security) (held_share holder security account) 0
held_share-other holder security other other_security account = grind (arith, nat_tests)

-- of an account of one security the share in another's total is nothing
total_share-other : (holder security other : ℕ) (account : Account)
    → cond (is_account holder security account) (total_share other account) 0
    ≡ cond (other == security) (held_share holder security account) 0
total_share-other holder security other account = grind (arith, nat_tests)

-- of the accounts of one security a holder's share of another is nothing
held_share-of : (holder security other : ℕ) (account : Account)
    → cond (is_of other account) (held_share holder security account) 0
    ≡ cond (other == security) (held_share holder security account) 0
held_share-of holder security other account = grind (arith, nat_tests)

-- and so is that in another's total
total_share-of : (security other : ℕ) (account : Account)
    → cond (is_of other account) (total_share security account) 0
    ≡ cond (other == security) (total_share security account) 0
total_share-of security other account = grind (arith, nat_tests)

-- what the written account adds to what a holder holds
held_share-account_of : (holder security held other other_security : ℕ)
    → sum_by (held_share other other_security) (account_of holder security held)
    ≡ cond (other == holder && other_security == security) held 0
held_share-account_of holder security held other other_security = grind (arith, nat_tests)

-- and to a total
total_share-account_of : (holder security held other : ℕ)
    → sum_by (total_share other) (account_of holder security held) ≡ cond (other == security) held 0
total_share-account_of holder security held other = grind (arith, nat_tests)

-- the figures of equal holders and securities are equal
held_in-same : (holder security other other_security : ℕ) (accounts : List Account)
    → (other == holder && other_security == security) ≡ true
    → held_in other other_security accounts ≡ held_in holder security accounts
held_in-same holder security other other_security accounts same =
    let parts = and_parts (other == holder) (other_security == security) same in
    ap₂ (λ h s. held_in h s accounts) (eqb-true other holder parts.0) (eqb-true other_security security parts.1)

-- what the account that is written over had
held_share-there : (holder security other other_security : ℕ) (accounts : List Account)
    → sum_by (held_share other other_security) (filter (is_account holder security) accounts)
    ≡ cond (other == holder && other_security == security) (held_in holder security accounts) 0
held_share-there holder security other other_security accounts =
    let test : Bool = other == holder && other_security == security in
    sum_by-filter (held_share other other_security) (is_account holder security) accounts
    ∙ sum_by_agree _ _ accounts (held_share-other holder security other other_security)
    ∙ kept_share test (held_share holder security) accounts
    ∙ ap (λ n. cond test n 0) (sym (held_in-shares holder security accounts))

-- what a holder holds after an account was given so much: so much there, and all else as before
pub held_in-with_held : (holder security held other other_security : ℕ) (accounts : List Account)
    → held_in other other_security (with_held holder security held accounts)
    ≡ (if other == holder && other_security == security then held else held_in other other_security accounts)
unfolding with_held
held_in-with_held holder security held other other_security accounts =
    let test : Bool = other == holder && other_security == security in
    let put = sum_by-put (held_share other other_security)
    (comes_before holder security) (is_account holder security) (comes_behind holder security)
    (StandsOnce-key account_key (holder, security)) (account_of holder security held) accounts in
    let there = held_share-there holder security other other_security accounts in
    let added = held_share-account_of holder security held other other_security in
    let new = held_in-shares other other_security (with_held holder security held accounts) in
    let old = held_in-shares other other_security accounts in
    elim (cases_Bool test) [
      | inl same ↦
          let equal = held_in-same holder security other other_security accounts same in
          let gone = cond-true test (held_in holder security accounts) 0 same in
          let come = cond-true test held 0 same in
          let sum : held_in other other_security (with_held holder security held accounts) ≡ held =
          omega (arith, new, old, put, there, gone, equal, added, come) in
          sum ∙ sym (cond-true test held (held_in other other_security accounts) same)
      | inr differs ↦
          let gone = cond-false test (held_in holder security accounts) 0 differs in
          let come = cond-false test held 0 differs in
          let sum : held_in other other_security (with_held holder security held accounts)
          ≡ held_in other other_security accounts = omega (arith, new, old, put, there, gone, added, come) in
          sum ∙ sym (cond-false test held (held_in other other_security accounts) differs)
    ]

-- the total of a security after an account was given so much
pub total_in-with_held : (holder security held other : ℕ) (accounts : List Account)
    → total_in other (with_held holder security held accounts)
    + (if other == security then held_in holder security accounts else 0)
    ≡ total_in other accounts + (if other == security then held else 0)
unfolding with_held
total_in-with_held holder security held other accounts =
    let put = sum_by-put (total_share other)
    (comes_before holder security) (is_account holder security) (comes_behind holder security)
    (StandsOnce-key account_key (holder, security)) (account_of holder security held) accounts in
    let there = sum_by-filter (total_share other) (is_account holder security) accounts
    ∙ sum_by_agree _ _ accounts (total_share-other holder security other)
    ∙ kept_share (other == security) (held_share holder security) accounts
    ∙ ap (λ n. cond (other == security) n 0) (sym (held_in-shares holder security accounts)) in
    omega (
      arith,
      total_in-shares other (with_held holder security held accounts),
      total_in-shares other accounts,
      put,
      there,
      total_share-account_of holder security held other,
    )

-- who has no account holds nothing
pub held_in-missing : (holder security : ℕ) (accounts : List Account) (place : ℕ)
    → AreInOrder accounts
    → IsMissingAt holder security accounts place
    → held_in holder security accounts ≡ 0
held_in-missing holder security accounts place in_order missing =
    ap (held_in holder security) (with_held-keep holder security 0 accounts place in_order missing (omega arith))
    ∙ held_in-with_held holder security 0 holder security accounts
    ∙ grind (arith, nat_tests)

-- nor does one of whom there is none among the accounts
pub held_in-nothing : (holder security : ℕ) (accounts : List Account)
    → All (λ account. is_account holder security account ≡ false) accounts
    → held_in holder security accounts ≡ 0
held_in-nothing holder security accounts others =
    ap (λ (xs : List Account). sum_by (λ (account : Account). account.held) xs)
    (filter_none (is_account holder security) accounts others)

-- what a holder holds among the accounts of one security
pub held_in-of : (holder security other : ℕ) (accounts : List Account)
    → held_in holder security (filter (is_of other) accounts)
    ≡ (if other == security then held_in holder security accounts else 0)
held_in-of holder security other accounts =
    held_in-shares holder security (filter (is_of other) accounts)
    ∙ sum_by-filter (held_share holder security) (is_of other) accounts
    ∙ sum_by_agree _ _ accounts (held_share-of holder security other)
    ∙ kept_share (other == security) (held_share holder security) accounts
    ∙ ap (λ n. cond (other == security) n 0) (sym (held_in-shares holder security accounts))

-- and what all hold among them
pub total_in-of : (security other : ℕ) (accounts : List Account)
    → total_in security (filter (is_of other) accounts)
    ≡ (if other == security then total_in security accounts else 0)
total_in-of security other accounts =
    total_in-shares security (filter (is_of other) accounts)
    ∙ sum_by-filter (total_share security) (is_of other) accounts
    ∙ sum_by_agree _ _ accounts (total_share-of security other)
    ∙ kept_share (other == security) (total_share security) accounts
    ∙ ap (λ n. cond (other == security) n 0) (sym (total_in-shares security accounts))

-- what a holder holds once the accounts of one security left
pub held_in-without : (holder security other : ℕ) (accounts : List Account)
    → held_in holder security (without other accounts)
    + (if other == security then held_in holder security accounts else 0)
    ≡ held_in holder security accounts
held_in-without holder security other accounts =
    let both = sum_by-filter_both (is_of other) (λ account. not (is_of other account)) (λ _. refl)
    (held_share holder security) accounts in
    omega (
      arith,
      both,
      held_in-of holder security other accounts,
      held_in-shares holder security (filter (is_of other) accounts),
      held_in-shares holder security (without other accounts),
      held_in-shares holder security accounts,
    )

-- and what all hold
pub total_in-without : (security other : ℕ) (accounts : List Account)
    → total_in security (without other accounts)
    + (if other == security then total_in security accounts else 0)
    ≡ total_in security accounts
total_in-without security other accounts =
    let both = sum_by-filter_both (is_of other) (λ account. not (is_of other account)) (λ _. refl)
    (total_share security) accounts in
    omega (
      arith,
      both,
      total_in-of security other accounts,
      total_in-shares security (filter (is_of other) accounts),
      total_in-shares security (without other accounts),
      total_in-shares security accounts,
    )

-- the accounts of other securities are as they were
pub held_in-without_other : (holder security other : ℕ) (accounts : List Account)
    → security ≢ other
    → held_in holder security (without other accounts) ≡ held_in holder security accounts
held_in-without_other holder security other accounts differs =
    let there : (other == security) ≡ false = ne_eqb other security (λ is. differs (sym is)) in
    omega (
      arith,
      held_in-without holder security other accounts,
      cond-false (other == security) (held_in holder security accounts) 0 there,
    )

-- and so are their totals
pub total_in-without_other : (security other : ℕ) (accounts : List Account)
    → security ≢ other
    → total_in security (without other accounts) ≡ total_in security accounts
total_in-without_other security other accounts differs =
    let there : (other == security) ≡ false = ne_eqb other security (λ is. differs (sym is)) in
    omega (
      arith,
      total_in-without security other accounts,
      cond-false (other == security) (total_in security accounts) 0 there,
    )

-- nothing is held of the security any more
pub total_in-without_same : (security : ℕ) (accounts : List Account) → total_in security (without security accounts) ≡ 0
total_in-without_same security accounts =
    omega (
      arith,
      total_in-without security security accounts,
      cond-true (security == security) (total_in security accounts) 0 (eq-eqb security security refl),
    )

-- what a holder holds in two lists
pub held_in-append : (holder security : ℕ) (front back : List Account)
    → held_in holder security (front ++ back) ≡ held_in holder security front + held_in holder security back
held_in-append holder security front back =
    omega (
      arith,
      held_in-shares holder security (front ++ back),
      held_in-shares holder security front,
      held_in-shares holder security back,
      sum_by-append (held_share holder security) front back,
    )

-- and what all hold in them
pub total_in-append : (security : ℕ) (front back : List Account)
    → total_in security (front ++ back) ≡ total_in security front + total_in security back
total_in-append security front back =
    omega (
      arith,
      total_in-shares security (front ++ back),
      total_in-shares security front,
      total_in-shares security back,
      sum_by-append (total_share security) front back,
    )

-- what was paid of a security stays where the accounts of another are paid
pub held_in-append_of_other : (holder security other : ℕ) (paid accounts : List Account)
    → security ≢ other
    → held_in holder security (paid ++ filter (is_of other) accounts) ≡ held_in holder security paid
held_in-append_of_other holder security other paid accounts differs =
    let there : (other == security) ≡ false = ne_eqb other security (λ is. differs (sym is)) in
    omega (
      arith,
      held_in-append holder security paid (filter (is_of other) accounts),
      held_in-of holder security other accounts,
      cond-false (other == security) (held_in holder security accounts) 0 there,
    )

-- the account that was given so much has it
pub held_in-with_held_same : (holder security held : ℕ) (accounts : List Account)
    → held_in holder security (with_held holder security held accounts) ≡ held
held_in-with_held_same holder security held accounts =
    held_in-with_held holder security held holder security accounts
    ∙ cond-true (holder == holder && security == security) held (held_in holder security accounts)
    (and_from _ _ (eq-eqb holder holder refl) (eq-eqb security security refl))

-- who has an account holds what it has
pub held_in-stands : (holder security : ℕ) (accounts : List Account) (place : ℕ) (d : Account)
    → AreInOrder accounts
    → HoldSomething accounts
    → StandsAt holder security accounts place
    → held_in holder security accounts ≡ (get_or accounts place d).held
held_in-stands holder security accounts place d in_order used stands =
    let held : ℕ = (get_or accounts place d).held in
    ap (held_in holder security) (with_held-own holder security accounts place d in_order used stands)
    ∙ held_in-with_held_same holder security held accounts

-- every other has what it had
pub held_in-with_held_other : (holder security held other other_security : ℕ) (accounts : List Account)
    → (other ≡ holder → other_security ≢ security)
    → held_in other other_security (with_held holder security held accounts) ≡ held_in other other_security accounts
held_in-with_held_other holder security held other other_security accounts differs =
    held_in-with_held holder security held other other_security accounts
    ∙ elim (cases_Bool (other == holder && other_security == security)) [
      | inl same ↦
          let parts = and_parts (other == holder) (other_security == security) same in
          absurd (differs (eqb-true other holder parts.0) (eqb-true other_security security parts.1))
      | inr not_same ↦ cond-false _ held (held_in other other_security accounts) not_same
    ]

-- the security's total changes by as much as the account
pub total_in-with_held_same : (holder security held : ℕ) (accounts : List Account)
    → total_in security (with_held holder security held accounts) + held_in holder security accounts
    ≡ total_in security accounts + held
total_in-with_held_same holder security held accounts =
    let here : (security == security) ≡ true = eq-eqb security security refl in
    omega (
      arith,
      total_in-with_held holder security held security accounts,
      cond-true (security == security) (held_in holder security accounts) 0 here,
      cond-true (security == security) held 0 here,
    )

-- every other total stays
pub total_in-with_held_other : (holder security held other : ℕ) (accounts : List Account)
    → other ≢ security
    → total_in other (with_held holder security held accounts) ≡ total_in other accounts
total_in-with_held_other holder security held other accounts differs =
    let there : (other == security) ≡ false = ne_eqb other security differs in
    omega (
      arith,
      total_in-with_held holder security held other accounts,
      cond-false (other == security) (held_in holder security accounts) 0 there,
      cond-false (other == security) held 0 there,
    )

-- what a holder holds after a credit
pub held_in-credited : (holder security par other other_security : ℕ) (accounts : List Account)
    → held_in other other_security (credited holder security par accounts)
    ≡ held_in other other_security accounts + (if other == holder && other_security == security then par else 0)
held_in-credited holder security par other other_security accounts =
    let test : Bool = other == holder && other_security == security in
    let more : ℕ = held_in holder security accounts + par in
    held_in-with_held holder security more other other_security accounts
    ∙ elim (cases_Bool test) [
      | inl same ↦
          omega (
            arith,
            held_in-same holder security other other_security accounts same,
            cond-true test more (held_in other other_security accounts) same,
            cond-true {A = ℕ} test par 0 same,
          )
      | inr differs ↦
          omega (
            arith,
            cond-false test more (held_in other other_security accounts) differs,
            cond-false {A = ℕ} test par 0 differs,
          )
    ]

-- what all hold of the security after a credit
pub total_in-credited : (holder security par : ℕ) (accounts : List Account)
    → total_in security (credited holder security par accounts) ≡ total_in security accounts + par
total_in-credited holder security par accounts =
    let sum = total_in-with_held_same holder security (held_in holder security accounts + par) accounts in
    omega arith

-- after par moved the one has so much less and the other so much more
pub held_in-moved : (from to security par other other_security : ℕ) (accounts : List Account)
    → from ≢ to
    → par ≤ held_in from security accounts
    → held_in other other_security (moved from to security par accounts)
    + (if other == from && other_security == security then par else 0)
    ≡ held_in other other_security accounts + (if other == to && other_security == security then par else 0)
held_in-moved from to security par other other_security accounts apart enough =
    let less : ℕ = held_in from security accounts - par in
    let between : List Account = with_held from security less accounts in
    let received : ℕ = held_in to security accounts + par in
    let theirs : held_in to security between ≡ held_in to security accounts =
    held_in-with_held_other from security less to security accounts (λ is _. apart (sym is)) in
    let more = held_in-with_held to security received other other_security between in
    let fewer = held_in-with_held from security less other other_security accounts in
    let same_list : moved from to security par accounts ≡ with_held to security received between = refl in
    elim (cases_Bool (other == to && other_security == security)) [
      | inl receives ↦
          let parts = and_parts (other == to) (other_security == security) receives in
          let not_from : (other == from && other_security == security) ≡ false =
          and_left (other == from) (other_security == security)
          (ne_eqb other from (λ is. apart (sym is ∙ eqb-true other to parts.0))) in
          omega (
            arith,
            held_in-same to security other other_security accounts receives,
            more,
            cond-true _ received (held_in other other_security between) receives,
            cond-true {A = ℕ} _ par 0 receives,
            cond-false {A = ℕ} _ par 0 not_from,
          )
      | inr not_to ↦ elim (cases_Bool (other == from && other_security == security)) [
        | inl sends ↦
            omega (
              arith,
              held_in-same from security other other_security accounts sends,
              more,
              fewer,
              enough,
              cond-false _ received (held_in other other_security between) not_to,
              cond-true _ less (held_in other other_security accounts) sends,
              cond-false {A = ℕ} _ par 0 not_to,
              cond-true {A = ℕ} _ par 0 sends,
            )
        | inr not_from ↦
            omega (
              arith,
              more,
              fewer,
              cond-false _ received (held_in other other_security between) not_to,
              cond-false _ less (held_in other other_security accounts) not_from,
              cond-false {A = ℕ} _ par 0 not_to,
              cond-false {A = ℕ} _ par 0 not_from,
            )
      ]
    ]

-- after par moved the security's total is as before
pub total_in-moved : (from to security par : ℕ) (accounts : List Account)
    → from ≢ to
    → par ≤ held_in from security accounts
    → total_in security (moved from to security par accounts) ≡ total_in security accounts
total_in-moved from to security par accounts apart enough =
    let less : ℕ = held_in from security accounts - par in
    let between : List Account = with_held from security less accounts in
    let theirs : held_in to security between ≡ held_in to security accounts =
    held_in-with_held_other from security less to security accounts (λ is _. apart (sym is)) in
    let sent = total_in-with_held_same from security less accounts in
    let received = total_in-with_held_same to security (held_in to security accounts + par) between in
    omega (arith, theirs, sent, received, enough)

-- and so is every other
pub total_in-moved_other : (from to security par other : ℕ) (accounts : List Account)
    → other ≢ security
    → total_in other (moved from to security par accounts) ≡ total_in other accounts
total_in-moved_other from to security par other accounts differs =
    let less : ℕ = held_in from security accounts - par in
    total_in-with_held_other to security (held_in to security accounts + par) other
    (with_held from security less accounts) differs
    ∙ total_in-with_held_other from security less other accounts differs
