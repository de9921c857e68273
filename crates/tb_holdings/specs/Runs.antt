-- Runs: where the payments of each redeemed security stand among all payments, in order of security.
use Rattle.std.specs.Prelude.{◌≡◌, ◌≢◌, ℕ, ◌+◌, ◌<◌, ◌≤◌, Bool, nat_lt, List, [], filter, length, take, drop, All, AllPairs, Contains}
use Rattle.tb_holdings.specs.declared.account.Account.{Account}
use Rattle.tb_holdings.specs.declared.runs.Run.{Run}
use Rattle.tb_holdings.specs.Holdings.{AreInOrder, HoldSomething, is_of}

-- the run stands before that of this security
abbrev pub stands_before : ℕ → Run → Bool
stands_before security run = nat_lt run.security security

-- the runs stand in order of security, and no two are of one security
abbrev pub RunsAreInOrder : List Run → Type 0
RunsAreInOrder runs = AllPairs (λ one later. one.security < later.security) runs

-- none of the runs is of this security
abbrev pub HaveNoRun : ℕ → List Run → Type 0
HaveNoRun security runs = All (λ run. run.security ≢ security) runs

-- each of the runs is of a redeemed security
abbrev pub AreRunsOf : List ℕ → List Run → Type 0
AreRunsOf redeemed runs = All (λ run. Contains redeemed run.security) runs

-- the payments of the run's security stand there, all of them, in order of holder
pub record IsRun (paid : List Account) (run : Run) : Type 0 where
  pub within : run.first + run.count ≤ length paid
  pub all : take run.count (drop run.first paid) ≡ filter (is_of run.security) paid
  pub in_order : AreInOrder (filter (is_of run.security) paid)
  pub none_empty : HoldSomething (filter (is_of run.security) paid)

-- the runs tell of each payment where it stands
pub record AreRuns (paid : List Account) (runs : List Run) : Type 0 where
  pub in_order : RunsAreInOrder runs
  pub each : All (λ run. IsRun paid run) runs
  pub others : (security : ℕ) → HaveNoRun security runs → filter (is_of security) paid ≡ []
