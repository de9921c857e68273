-- Runs in order: which run is missing, where a run is put in, and what the runs tell after a redemption.
use Rattle.std.proofs.Common.{◌≡◌, ◌≢◌, ℕ, ◌-◌, ◌<◌, ◌≤◌, true, false, List, [], ◌∷◌, ◌++◌, length, get_or, take, drop, filter, insert, Contains, refl, ap, sym, subst, ◌∙◌, inl, inr, append-nil, length-append, eq-eqb, ne_eqb, eqb-true, ◌==◌, arith}
use Rattle.std.specs.List.Sorted.{IsPartitionedBy}
use Rattle.std.proofs.lemmas.Bool.{cases_eq, cases_lt, cond-true}
use Rattle.std.proofs.lemmas.Bool.Decides.{nat_tests}
use Rattle.std.proofs.lemmas.List.{drop-append-le, drop_at, get_or-take, length-drop, length-take, take-append-drop, take-append-le, take_all}
use Rattle.std.proofs.lemmas.List.Elements.{All-filter, All-nil, All-weaker, Contains-append_left, Contains-push, filter-append, filter_passes}
use Rattle.std.proofs.lemmas.List.Kept.{AllPairs-filter}
use Rattle.tb_units.specs.Places.{HasOneMore, IsPlace}
use Rattle.tb_units.proofs.ListLemmas.{All-one, All-one_less, All-one_more, AllPairs-insert, AllPairs-nil}
use Rattle.tb_units.proofs.PlaceLemmas.{filter_all, filter_none}
use Rattle.tb_holdings.specs.declared.account.Account.{Account}
use Rattle.tb_holdings.specs.declared.runs.Run.{Run}
use Rattle.tb_holdings.specs.Holdings.{AreInOrder, HoldSomething, IsEarlier, held_in, is_of}
use Rattle.tb_holdings.specs.Runs.{AreRuns, AreRunsOf, HaveNoRun, IsRun, RunsAreInOrder, stands_before}
use Rattle.tb_holdings.proofs.HoldingLemmas.{held_in-of}

-- a run before one that stands before a security stands before it
stands_before_back : (security : ℕ) (one later : Run)
    → one.security < later.security
    → stands_before security later ≡ true
    → stands_before security one ≡ true
stands_before_back security one later earlier before = grind (arith, nat_tests)

-- of runs in order, those before a security stand first
pub IsPartitionedBy-runs : (security : ℕ) (runs : List Run)
    → RunsAreInOrder runs
    → IsPartitionedBy (stands_before security) runs
IsPartitionedBy-runs security runs in_order = λ i j d within short before.
    elim (cases_eq i j) [
      | inl at ↦ rw at before
      | inr apart ↦ stands_before_back security (get_or runs i d) (get_or runs j d)
          (in_order i j d (omega arith) short) before
    ]

-- what stands before a security is less
less_before : (security : ℕ) (run : Run) → stands_before security run ≡ true → run.security < security
less_before security run before = grind (arith, nat_tests)

-- and what doesn't is not
not_less : (security : ℕ) (run : Run) → stands_before security run ≡ false → security ≤ run.security
not_less security run from = grind (arith, nat_tests)

-- a run in front of the place is of a lesser security
less_in_front : (security : ℕ) (runs : List Run) (place k : ℕ) (d : Run)
    → IsPlace (stands_before security) runs place
    → k < place
    → (get_or runs k d).security < security
less_in_front security runs place k d at inside =
    let within = at.within in
    let passed : stands_before security (get_or (take place runs) k d) ≡ true =
    at.passed k d (omega (arith, length-take place runs, inside, within)) in
    less_before security (get_or runs k d)
    (subst (λ (run : Run). stands_before security run ≡ true) (get_or-take place runs k d inside) passed)

-- a run behind the place is of a greater one
greater_behind : (security : ℕ) (runs : List Run) (place k : ℕ) (d : Run)
    → RunsAreInOrder runs
    → IsPlace (stands_before security) runs place
    → place < k
    → k < length runs
    → security < (get_or runs k d).security
greater_behind security runs place k d in_order at later short =
    let least = not_less security (get_or runs place d) (at.stops d (omega (arith, later, short))) in
    omega (arith, least, in_order place k d later short)

-- where another run stands at the place no run is of the security
pub HaveNoRun-missing : (security : ℕ) (runs : List Run) (place : ℕ)
    → RunsAreInOrder runs
    → IsPlace (stands_before security) runs place
    → ((d : Run) → place < length runs → (get_or runs place d).security ≢ security)
    → HaveNoRun security runs
HaveNoRun-missing security runs place in_order at other = λ k d short.
    elim (cases_eq k place) [
      | inl here ↦
          let within : place < length runs = omega (arith, here, short) in
          rw here (other d within)
      | inr apart ↦ elim (cases_lt k place) [
        | inl inside ↦ λ same. absurd (omega (arith, same, less_in_front security runs place k d at inside))
        | inr past ↦ λ same.
            let later : place < k = omega (arith, past, apart) in
            absurd (omega (arith, same, greater_behind security runs place k d in_order at later short))
      ]
    ]

-- a run put in at a place is among the runs
pub HasOneMore-run : (run : Run) (runs : List Run) (place : ℕ) → HasOneMore run runs (insert runs place run)
HasOneMore-run run runs place = record {
  front = take place runs;
  back = drop place runs;
  without = sym (take-append-drop place runs);
  whole = λ i. insert runs place run;
}

-- a new run put in at its place leaves the runs in order
pub RunsAreInOrder-insert : (run : Run) (runs : List Run) (place : ℕ)
    → RunsAreInOrder runs
    → HaveNoRun run.security runs
    → IsPlace (stands_before run.security) runs place
    → RunsAreInOrder (insert runs place run)
RunsAreInOrder-insert run runs place in_order new at =
    let R : Run → Run → Type 0 = λ one later. one.security < later.security in
    AllPairs-insert R runs place run at.within in_order
    (λ k d from short. less_in_front run.security runs place k d at short)
    (λ k d from short. elim (cases_eq k place) [
      | inl here ↦
          let within : place < length runs = omega (arith, here, short) in
          let least = not_less run.security (get_or runs place d) (at.stops d within) in
          let apart = new place d within in
          rw here (elim (cases_lt run.security (get_or runs place d).security) [
            | inl less ↦ less
            | inr more ↦ absurd (apart (omega (arith, least, more)))
          ])
      | inr apart ↦ greater_behind run.security runs place k d in_order at (omega (arith, from, apart)) short
    ])

-- an account of one security isn't of another
of_another : (security other : ℕ) (account : Account)
    → other ≢ security
    → is_of security account ≡ true
    → is_of other account ≡ false
of_another security other account differs is =
    ne_eqb account.security other (λ same. differs (sym same ∙ eqb-true account.security security is))

-- a redemption of one security pays nothing of another
paid_other : (security other : ℕ) (paid accounts : List Account)
    → other ≢ security
    → filter (is_of other) (paid ++ filter (is_of security) accounts) ≡ filter (is_of other) paid
paid_other security other paid accounts differs =
    let now : List Account = filter (is_of security) accounts in
    filter-append (is_of other) paid now
    ∙ (ap (λ (xs : List Account). filter (is_of other) paid ++ xs)
    (filter_none (is_of other) now
    (All-weaker (λ account. is_of security account ≡ true) (λ account. is_of other account ≡ false)
    (λ account is. of_another security other account differs is) now (filter_passes (is_of security) accounts)))
    ∙ append-nil (filter (is_of other) paid))

-- of a security of which nothing was paid it pays all there is
paid_own : (security : ℕ) (paid accounts : List Account)
    → filter (is_of security) paid ≡ []
    → filter (is_of security) (paid ++ filter (is_of security) accounts) ≡ filter (is_of security) accounts
paid_own security paid accounts none =
    let now : List Account = filter (is_of security) accounts in
    filter-append (is_of security) paid now
    ∙ (ap (λ (xs : List Account). xs ++ filter (is_of security) now) none
    ∙ filter_all (is_of security) now (filter_passes (is_of security) accounts))

-- the run of another security stays where it is
IsRun-other : (security : ℕ) (paid accounts : List Account) (run : Run)
    → run.security ≢ security
    → IsRun paid run
    → IsRun (paid ++ filter (is_of security) accounts) run
IsRun-other security paid accounts run differs is =
    let now : List Account = filter (is_of security) accounts in
    let same = paid_other security run.security paid accounts differs in
    let within = is.within in
    record {
      within = omega (arith, within, length-append paid now);
      all = ap (take run.count) (drop-append-le run.first paid now (omega (arith, within)))
          ∙ (take-append-le run.count (drop run.first paid) now (omega (arith, within, length-drop run.first paid))
          ∙ (is.all ∙ sym same));
      in_order = subst AreInOrder (sym same) is.in_order;
      none_empty = subst HoldSomething (sym same) is.none_empty;
    }

-- the run of the security that is redeemed
abbrev pub run_now : ℕ → List Account → List Account → Run
run_now security paid accounts =
    record { security = security; first = length paid; count = length (filter (is_of security) accounts) }

-- the payments of the security stand behind those before
IsRun-now : (security : ℕ) (paid accounts : List Account)
    → AreInOrder accounts
    → HoldSomething accounts
    → filter (is_of security) paid ≡ []
    → IsRun (paid ++ filter (is_of security) accounts) (run_now security paid accounts)
IsRun-now security paid accounts in_order none_empty none =
    let now : List Account = filter (is_of security) accounts in
    let own = paid_own security paid accounts none in
    record {
      within = omega (arith, length-append paid now);
      all = ap (take (length now)) (drop_at paid now (length paid) refl)
          ∙ (take_all (length now) now (omega arith) ∙ sym own);
      in_order = subst AreInOrder (sym own) (AllPairs-filter IsEarlier (is_of security) accounts in_order);
      none_empty = subst HoldSomething (sym own)
          (All-filter (is_of security) (λ account. 0 < account.held) accounts none_empty);
    }

-- with that run the runs tell of each payment where it stands
pub AreRuns-paid : (security : ℕ) (paid accounts : List Account) (runs more : List Run)
    → AreRuns paid runs
    → HaveNoRun security runs
    → AreInOrder accounts
    → HoldSomething accounts
    → HasOneMore (run_now security paid accounts) runs more
    → RunsAreInOrder more
    → AreRuns (paid ++ filter (is_of security) accounts) more
AreRuns-paid security paid accounts runs more are new in_order none_empty one runs_in_order =
    let now : List Account = filter (is_of security) accounts in
    let run : Run = run_now security paid accounts in
    record {
      in_order = runs_in_order;
      each = All-one_more (IsRun (paid ++ now)) run runs more one
          (IsRun-now security paid accounts in_order none_empty (are.others security new))
          (λ k d short. IsRun-other security paid accounts (get_or runs k d) (new k d short) (are.each k d short));
      others = λ other none.
          let P : Run → Type 0 = λ one_run. one_run.security ≢ other in
          paid_other security other paid accounts (λ same. All-one P run runs more one none (sym same))
          ∙ are.others other (All-one_less P run runs more one none);
    }

-- each run is of a redeemed security then
pub AreRunsOf-paid : (redeemed : List ℕ) (security : ℕ) (run : Run) (runs more : List Run)
    → HasOneMore run runs more
    → run.security ≡ security
    → AreRunsOf redeemed runs
    → AreRunsOf (redeemed ++ security ∷ []) more
AreRunsOf-paid redeemed security run runs more one own of =
    let P : Run → Type 0 = λ other. Contains (redeemed ++ security ∷ []) other.security in
    let Q : ℕ → Type 0 = Contains (redeemed ++ security ∷ []) in
    All-one_more P run runs more one (subst Q (sym own) (Contains-push redeemed security))
    (λ k d short. Contains-append_left redeemed (security ∷ []) (get_or runs k d).security (of k d short))

-- a security that isn't redeemed has no run
pub HaveNoRun-live : (redeemed : List ℕ) (security : ℕ) (runs : List Run)
    → AreRunsOf redeemed runs
    → ¬ (Contains redeemed security)
    → HaveNoRun security runs
HaveNoRun-live redeemed security runs of live = λ k d short same.
    live (subst (Contains redeemed) same (of k d short))

-- no payments, no runs
pub AreRuns-empty : AreRuns [] []
AreRuns-empty = record {
  in_order = AllPairs-nil (λ (one later : Run). one.security < later.security);
  each = All-nil (IsRun []);
  others = λ _ _. refl;
}

-- what a holder was paid of a security stands among the security's payments
pub held_in-own : (holder security : ℕ) (paid : List Account)
    → held_in holder security (filter (is_of security) paid) ≡ held_in holder security paid
held_in-own holder security paid =
    held_in-of holder security security paid
    ∙ cond-true (security == security) (held_in holder security paid) 0 (eq-eqb security security refl)

-- a run among them tells where payments stand
pub IsRun-found : (paid : List Account) (runs : List Run) (run : Run)
    → AreRuns paid runs
    → Contains runs run
    → IsRun paid run
IsRun-found paid runs run are found = subst (IsRun paid) found.2 (are.each found.0 run found.1)

-- what is cut out of the payments there are those of the security
run-items : (paid : List Account) (run : Run)
    → IsRun paid run
    → take run.count (take (length paid - run.first) (drop run.first paid)) ≡ filter (is_of run.security) paid
run-items paid run is =
    ap (take run.count)
    (take_all (length paid - run.first) (drop run.first paid) (omega (arith, length-drop run.first paid)))
    ∙ is.all

-- so what a holder was paid of a security stands in the security's run
pub held_in-run : (holder security : ℕ) (paid : List Account) (run : Run)
    → IsRun paid run
    → run.security ≡ security
    → held_in holder security (take run.count (take (length paid - run.first) (drop run.first paid)))
    ≡ held_in holder security paid
held_in-run holder security paid run is own =
    ap (held_in holder security) (run-items paid run is)
    ∙ (ap (λ (s : ℕ). held_in holder security (filter (is_of s) paid)) own
    ∙ held_in-own holder security paid)
