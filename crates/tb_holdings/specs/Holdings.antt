-- Accounts: what each holder holds of each security, in order of holder and then security.
use Rattle.std.specs.Prelude.{◌≡◌, ◌≢◌, ℕ, ◌+◌, ◌-◌, ◌<◌, Bool, true, not, ◌&&◌, ◌||◌, ◌==◌, nat_lt, List, [], ◌∷◌, ◌++◌, filter, sum_by, All, AllPairs, Contains, if◌then◌else◌}
use Rattle.tb_holdings.specs.declared.account.Account.{Account}

-- the account is this holder's, of this security
abbrev pub is_account : ℕ → ℕ → Account → Bool
is_account holder security account = account.holder == holder && account.security == security

-- the account is one of this security
abbrev pub is_of : ℕ → Account → Bool
is_of security account = account.security == security

-- the account stands before that of this holder and security
abbrev pub comes_before : ℕ → ℕ → Account → Bool
comes_before holder security account =
    nat_lt account.holder holder || (account.holder == holder && nat_lt account.security security)

-- the account stands behind that of this holder and security
abbrev pub comes_behind : ℕ → ℕ → Account → Bool
comes_behind holder security account =
    nat_lt holder account.holder || (holder == account.holder && nat_lt security account.security)

-- the one account stands before the other
abbrev pub IsEarlier : Account → Account → Type 0
IsEarlier one later = comes_before later.holder later.security one ≡ true

-- the accounts stand in order of holder and then security, and no two are of one holder and security
abbrev pub AreInOrder : List Account → Type 0
AreInOrder accounts = AllPairs IsEarlier accounts

-- each of the accounts holds something
abbrev pub HoldSomething : List Account → Type 0
HoldSomething accounts = All (λ account. 0 < account.held) accounts

-- what the holder holds of the security
abbrev pub held_in : ℕ → ℕ → List Account → ℕ
held_in holder security accounts = sum_by (λ account. account.held) (filter (is_account holder security) accounts)

-- what all holders together hold of the security
abbrev pub total_in : ℕ → List Account → ℕ
total_in security accounts = sum_by (λ account. account.held) (filter (is_of security) accounts)

-- the holders, each once, and among them everybody who has one of the accounts
pub record AreHolders (holders : List ℕ) (accounts : List Account) : Type 0 where
  pub once : AllPairs (λ one other. one ≢ other) holders
  pub all : All (λ account. Contains holders account.holder) accounts

-- the holder's account of the security, with so much held
abbrev pub account_with : ℕ → ℕ → ℕ → Account
account_with holder security held = record { holder = holder; security = security; held = held }

-- that account, and none where nothing is held
abbrev pub account_of : ℕ → ℕ → ℕ → List Account
account_of holder security held = if held == 0 then [] else account_with holder security held ∷ []

-- the accounts, of which the holder's of this security now holds so much
unfoldable pub with_held : ℕ → ℕ → ℕ → List Account → List Account
with_held holder security held accounts =
    filter (comes_before holder security) accounts
    ++ (account_of holder security held ++ filter (comes_behind holder security) accounts)

-- the accounts after par was credited to the holder
abbrev pub credited : ℕ → ℕ → ℕ → List Account → List Account
credited holder security par accounts = with_held holder security (held_in holder security accounts + par) accounts

-- the accounts after par moved from one holder to another
abbrev pub moved : ℕ → ℕ → ℕ → ℕ → List Account → List Account
moved from to security par accounts =
    with_held to security (held_in to security accounts + par)
    (with_held from security (held_in from security accounts - par) accounts)

-- the accounts of the other securities
abbrev pub without : ℕ → List Account → List Account
without security accounts = filter (λ account. not (is_of security account)) accounts
