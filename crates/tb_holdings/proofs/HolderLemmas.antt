-- The holders of a list of accounts: what each of them holds sums to the total, and who they are after each change.
use Rattle.std.proofs.Common.{◌≡◌, ◌≢◌, ℕ, zero, suc, ◌+◌, ◌-◌, Bool, true, false, not, cond, ◌&&◌, ◌==◌, List, [], ◌∷◌, ◌++◌, All, AllPairs, Contains, filter, sum_by, refl, ap, sym, ◌∙◌, inl, inr, arith, eq-eqb, ne_eqb}
use Rattle.std.proofs.lemmas.Bool.{cases_eq, cond-true, cond-false}
use Rattle.std.proofs.lemmas.List.Elements.{All-head, All-tail, All-append, All-filter}
use Rattle.std.proofs.lemmas.List.Sums.{sum_by-cons}
use Rattle.std.proofs.lemmas.Bool.Decides.{nat_tests}
use Rattle.tb_units.proofs.ListLemmas.{AllPairs-head, AllPairs-tail}
use Rattle.tb_units.proofs.SumLemmas.{sum_by-filter-cons, sum_by_agree, sum_by_none}
use Rattle.tb_holdings.specs.declared.account.Account.{Account}
use Rattle.tb_holdings.proofs.AccountLemmas.{All-account_of}
use Rattle.tb_holdings.specs.Holdings.{is_account, is_of, comes_before, comes_behind, held_in, total_in, AreHolders, account_of, with_held, credited, moved, without}

-- a sum of two terms is the sum of both
pub sum_by_plus : {X : Type 0} (f g : X → ℕ) (xs : List X)
    → sum_by (λ x. f x + g x) xs ≡ sum_by f xs + sum_by g xs
sum_by_plus f g [] = refl
sum_by_plus f g (x ∷ xs) =
    omega (
      arith,
      sum_by-cons (λ y. f y + g y) x xs,
      sum_by-cons f x xs,
      sum_by-cons g x xs,
      sum_by_plus f g xs,
    )

-- what is counted for one who isn't among them is counted for nobody
sum_by_absent : (who par : ℕ) (holders : List ℕ)
    → All (λ holder. who ≢ holder) holders
    → sum_by (λ holder. cond (holder == who) par 0) holders ≡ 0
sum_by_absent who par [] absent = refl
sum_by_absent who par (holder ∷ holders) absent =
    let P : ℕ → Type 0 = λ other. who ≢ other in
    let here = cond-false {A = ℕ} (holder == who) par 0
    (ne_eqb holder who (λ is. All-head P holder holders absent (sym is))) in
    omega (
      arith,
      sum_by-cons (λ other. cond (other == who) par 0) holder holders,
      here,
      sum_by_absent who par holders (All-tail P holder holders absent),
    )

-- who is among them and isn't the first is among the rest
Contains-rest : (holder : ℕ) (holders : List ℕ) (who : ℕ)
    → Contains (holder ∷ holders) who
    → who ≢ holder
    → Contains holders who
Contains-rest holder holders who (zero, within, is) differs = absurd (differs (sym is))
Contains-rest holder holders who (suc k, within, is) differs = (k, omega arith, is)

-- what is counted for one of them is counted once
pub sum_by_once : (who par : ℕ) (holders : List ℕ)
    → AllPairs (λ one other. one ≢ other) holders
    → Contains holders who
    → sum_by (λ holder. cond (holder == who) par 0) holders ≡ par
sum_by_once who par [] once among = absurd (omega (arith, among.1))
sum_by_once who par (holder ∷ holders) once among =
    let R : ℕ → ℕ → Type 0 = λ one other. one ≢ other in
    let step = sum_by-cons (λ other. cond (other == who) par 0) holder holders in
    elim (cases_eq who holder) [
      | inl same ↦
          let here = cond-true {A = ℕ} (holder == who) par 0 (eq-eqb holder who (sym same)) in
          let rest = sum_by_absent who par holders
          (λ k d short is. AllPairs-head R holder holders once k d short (sym same ∙ is)) in
          omega (arith, step, here, rest)
      | inr differs ↦
          let here = cond-false {A = ℕ} (holder == who) par 0 (ne_eqb holder who (λ is. differs (sym is))) in
          let rest = sum_by_once who par holders (AllPairs-tail R holder holders once)
          (Contains-rest holder holders who among differs) in
          omega (arith, step, here, rest)
    ]

-- a share that is counted of one security alone
pub counted_of : (own of : Bool) (par : ℕ) → cond (own && of) par 0 ≡ cond of (cond own par 0) 0
counted_of true true par = refl
counted_of true false par = refl
counted_of false true par = refl
counted_of false false par = refl

-- what one of them has of a security that may be another
pub sum_by_one : (who par : ℕ) (of : Bool) (holders : List ℕ)
    → AllPairs (λ one other. one ≢ other) holders
    → Contains holders who
    → sum_by (λ holder. cond (holder == who && of) par 0) holders ≡ cond of par 0
sum_by_one who par of holders once among =
    sum_by_agree _ (λ holder. cond of (cond (holder == who) par 0) 0) holders
    (λ holder. counted_of (holder == who) of par)
    ∙ elim of as (λ b. sum_by (λ holder. cond b (cond (holder == who) par 0) 0) holders ≡ cond b par 0) [
      | true ↦ sum_by_once who par holders once among
      | false ↦ sum_by_none holders
    ]

-- the test of an account, the other way round
turned : (holder security : ℕ) (account : Account)
    → cond (is_account holder security account) account.held 0
    ≡ cond (holder == account.holder && is_of security account) account.held 0
turned holder security account = grind (arith, nat_tests)

-- what the holders hold sums to what all together hold
pub total_in-holders : (holders : List ℕ) (security : ℕ) (accounts : List Account)
    → AreHolders holders accounts
    → sum_by (λ holder. held_in holder security accounts) holders ≡ total_in security accounts
total_in-holders holders security [] are = sum_by_none holders
total_in-holders holders security (account ∷ accounts) are =
    let P : Account → Type 0 = λ one. Contains holders one.holder in
    let share : ℕ → ℕ = λ holder. cond (holder == account.holder && is_of security account) account.held 0 in
    sum_by_agree (λ holder. held_in holder security (account ∷ accounts))
    (λ holder. share holder + held_in holder security accounts) holders
    (λ holder. sum_by-filter-cons (λ one. one.held) (is_account holder security) account accounts
    ∙ ap (λ n. n + held_in holder security accounts) (turned holder security account))
    ∙ (sum_by_plus share (λ holder. held_in holder security accounts) holders
    ∙ omega (
      arith,
      sum_by_one account.holder account.held (is_of security account) holders are.once
          (All-head P account accounts are.all),
      total_in-holders holders security accounts
          (record { once = are.once; all = All-tail P account accounts are.all }),
      sum_by-filter-cons (λ one. one.held) (is_of security) account accounts,
    ))

-- what holds of every holder
abbrev pub HoldersAre : (ℕ → Type 0) → List Account → Type 0
HoldersAre P accounts = All (λ account. P account.holder) accounts

-- and of one that is given an account
pub HoldersAre-with_held : (P : ℕ → Type 0) (holder security held : ℕ) (accounts : List Account)
    → P holder
    → HoldersAre P accounts
    → HoldersAre P (with_held holder security held accounts)
unfolding with_held
HoldersAre-with_held P holder security held accounts is all =
    let Q : Account → Type 0 = λ account. P account.holder in
    let middle = All-account_of Q holder security held is in
    All-append Q (filter (comes_before holder security) accounts)
    (account_of holder security held ++ filter (comes_behind holder security) accounts)
    (All-filter (comes_before holder security) Q accounts all)
    (All-append Q (account_of holder security held) (filter (comes_behind holder security) accounts) middle
    (All-filter (comes_behind holder security) Q accounts all))

-- after a credit
pub HoldersAre-credited : (P : ℕ → Type 0) (holder security par : ℕ) (accounts : List Account)
    → P holder
    → HoldersAre P accounts
    → HoldersAre P (credited holder security par accounts)
HoldersAre-credited P holder security par accounts is all =
    HoldersAre-with_held P holder security (held_in holder security accounts + par) accounts is all

-- after a transfer
pub HoldersAre-moved : (P : ℕ → Type 0) (from to security par : ℕ) (accounts : List Account)
    → P from
    → P to
    → HoldersAre P accounts
    → HoldersAre P (moved from to security par accounts)
HoldersAre-moved P from to security par accounts is_from is_to all =
    let less : ℕ = held_in from security accounts - par in
    HoldersAre-with_held P to security (held_in to security accounts + par)
    (with_held from security less accounts) is_to
    (HoldersAre-with_held P from security less accounts is_from all)

-- after a redemption
pub HoldersAre-without : (P : ℕ → Type 0) (security : ℕ) (accounts : List Account)
    → HoldersAre P accounts
    → HoldersAre P (without security accounts)
HoldersAre-without P security accounts all =
    All-filter (λ account. not (is_of security account)) (λ account. P account.holder) accounts all

-- among those that were paid at one
pub HoldersAre-paid : (P : ℕ → Type 0) (security : ℕ) (paid accounts : List Account)
    → HoldersAre P paid
    → HoldersAre P accounts
    → HoldersAre P (paid ++ filter (is_of security) accounts)
HoldersAre-paid P security paid accounts before all =
    All-append (λ account. P account.holder) paid (filter (is_of security) accounts) before
    (All-filter (is_of security) (λ account. P account.holder) accounts all)
