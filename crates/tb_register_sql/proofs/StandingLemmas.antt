-- Statement 1 over a table that stands: it does nothing, and only want of memory and a fault of the store refuse it.
use Rattle.std.proofs.Common.{◌≡◌, ◌⊎◌, inl, inr, ℕ, List, [], length, false, None, Result}
use Rattle.std.proofs.Common.{Ok, Err, sym, ap, subst, ◌∙◌}
use Rattle.std.specs.Prelude.{IsTrue, IfErr}
use Rattle.sqlite.specs.Order.{Row}
use Rattle.sqlite_trees.specs.declared.error.StoreError.{StoreError}
use Rattle.sqlite_trees.specs.declared.error.StoreError.TheVariants as store
use Rattle.sqlite_schema.specs.declared.command.Command.TheVariants.{Nothing}
use Rattle.sqlite_resolve.specs.declared.compiled.Compiled.{Compiled}
use Rattle.tb_register.specs.declared.keeper.KeeperFault.{KeeperFault}
use Rattle.sqlite.specs.Clock.{timed}
use Rattle.sqlite.specs.Listing.{understood}
use Rattle.sqlite.specs.State.{State, Executes, ExecutesIn, Fails, IsMisplaced, IsNoStatement, IsNotRun, RunsAlone}
use Rattle.sqlite.specs.State.{HasCause, store_error}
use Rattle.sqlite.proofs.Callers.{IsPlain, command_of, runs_as}
use Rattle.tb_register_sql.specs.Auctions.{create_text, register_schema}
use Rattle.tb_register_sql.specs.Shelves.{IsMade, StaysMade}
use Rattle.tb_register_sql.specs.Statements.{LacksOrFails, Ran}
use Rattle.sqlite_disk.specs.Disk.{MoreFaults}
use Rattle.sqlite.specs.declared.error.Error.{Error}
use Rattle.sqlite.specs.declared.error.Error.TheVariants.{SqliteFailure}
use Rattle.sqlite.specs.declared.error.ErrorCode.TheVariants as code
use Rattle.tb_register_sql.proofs.TextLemmas.{IsWhole, create_again, create_again_plain, create_again_whole}
use Rattle.tb_register_sql.proofs.RefusalLemmas.{refused_stays, unchanged_stays}
use Rattle.tb_register_sql.proofs.AddedLemmas.{stays_made}

-- the table stays
pub stays_there : (old new : State) (result : Result ℕ KeeperFault) → IsMade old
    → IsTrue new.is_open
    → Ran create_text [] old new result
    → StaysMade old new
stays_there old new (Err why) was is_open runs =
    stays_made old new was (refused_stays old new create_text [] runs.0 was.settled is_open runs.2)
stays_there old new (Ok count) was is_open runs =
    let ran =
    runs_as create_text [] old new register_schema was.schema Nothing create_again create_again_plain count runs in
    stays_made old new was (unchanged_stays old new was.settled ran.0)

-- a statement was refused for want of memory, or by a fault of the store
abbrev IsLackOrFault : State → State → Error → Type 0
IsLackOrFault old new error = (error ≡ SqliteFailure code.OutOfMemory) ⊎ MoreFaults old.faults new.faults

-- a store that fails does so for want of memory or by a fault, where it is open and nothing is too big
fails_for : (old new : State) (too_big : Type 0) (error : Error) → IsTrue old.is_open
    → ¬ too_big
    → Fails old new too_big error
    → IsLackOrFault old new error
fails_for old new too_big error is_open fits fails = by_cause fails.0 fails.1 fails.2
  where
    by_cause : (cause : StoreError) → error ≡ store_error cause
        → HasCause old new too_big cause
        → IsLackOrFault old new error
    by_cause store.OutOfMemory is cause = inl is
    by_cause store.Io is cause = inr cause
    by_cause store.Corrupt is cause = inr cause
    by_cause store.Full is cause = inr cause
    by_cause store.Broken is cause = absurd (let shut = subst IsTrue cause is_open in cc)
    by_cause store.Unstorable is cause = absurd (fits cause)

-- a text that is one statement isn't refused for itself
is_statement : (old : State) (sql : List ℕ) (params : Row) (error : Error)
    → IsWhole sql (length params) (understood old.now.schema sql)
    → IsPlain (understood old.now.schema sql)
    → ¬ (IsNoStatement old sql params error)
is_statement old sql params error whole plain (inl none) = subst (IsWhole sql (length params)) none.1 whole
is_statement old sql params error whole plain (inr none) =
    let is = subst (IsWhole sql (length params)) none.1 whole in
    elim none.2 [
      | inl more ↦ more.0 is.0
      | inr other ↦ elim other [
        | inl count ↦ count.0 (sym is.1)
        | inr time ↦ time.0 (subst IsPlain none.1 plain).1
      ]
    ]

-- nothing is never out of place
in_place : (s : State) (error : Error) → ¬ (IsMisplaced s Nothing error)
in_place s error (inl misplaced) =
    elim misplaced.1 [
      | inl begins ↦ absurd (let is = begins.0 in cc)
      | inr ends ↦ elim ends.0 [
        | inl commits ↦ absurd (cc (commits))
        | inr undoes ↦ absurd (cc (undoes))
      ]
    ]
in_place s error (inr named) =
    elim named.2 [
      | inl releases ↦ absurd (cc (releases))
      | inr goes_back ↦ absurd (cc (goes_back))
    ]

-- nothing, refused, is refused for that
nothing_refused : (old new : State) (sql : List ℕ) (compiled : Compiled) (params : Row) (error : Error)
    → IsTrue old.is_open
    → compiled.command ≡ Nothing
    → compiled.returning ≡ None
    → RunsAlone false old new sql compiled params (Err error)
    → IsLackOrFault old new error
nothing_refused old new sql compiled params error is_open nothing none runs =
    elim (rw (nothing, none) at runs) [
      | inl refused ↦ elim refused.0 [
        | inl misplaced ↦ absurd (in_place old error misplaced)
        | inr changes ↦ elim changes.0 [
          | inl writes ↦ absurd writes
          | inr returns ↦ absurd (cc (returns))
        ]
      ]
      | inr fails ↦ fails_for old new _ error is_open (λ big. cc (big)) fails
    ]

-- statement 1 is refused for that alone
again_refused : (old new : State) (error : Error) → IsMade old
    → IsTrue old.is_open
    → Executes create_text [] old new (Err error)
    → IsLackOrFault old new error
unfolding ExecutesIn IsNotRun
again_refused old new error was is_open (inl unrun) =
    let is = ap (λ schema. understood schema create_text) (sym was.schema) in
    elim unrun [
      | inl none ↦ absurd (is_statement old create_text [] error (subst (IsWhole create_text 0) is create_again_whole)
          (subst IsPlain is create_again_plain) none.0)
      | inr fails ↦ fails_for old new ⊥ error is_open (λ big. big) fails
    ]
again_refused old new error was is_open (inr ran) =
    let is = ap (λ schema. understood schema create_text) (sym was.schema) ∙ ran.1.is in
    nothing_refused old new create_text ran.0 (timed [] ran.0.formats ran.1.now) error is_open
    (ap command_of (sym is) ∙ create_again) (subst IsPlain is create_again_plain).0 ran.2

-- and that is answered
pub refused_for : (old new : State) (result : Result ℕ KeeperFault) → IsMade old
    → IsTrue old.is_open
    → Ran create_text [] old new result
    → IfErr result (LacksOrFails old new)
refused_for old new (Ok count) was is_open runs = tt
refused_for old new (Err why) was is_open runs =
    elim (again_refused old new runs.0 was is_open runs.2) [
      | inl lacks ↦ inl (runs.1.1 lacks)
      | inr faults ↦ inr faults
    ]
