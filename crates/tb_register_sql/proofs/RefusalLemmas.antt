-- A statement that is refused leaves the database as it was, and so does a query.
use Rattle.std.proofs.Common.{◌≡◌, inl, inr, ℕ, List, false, Option, Some, None, Err}
use Rattle.std.proofs.Common.{sym, subst, ◌∙◌}
use Rattle.std.specs.Prelude.{IsTrue}
use Rattle.std.proofs.lemmas.Bool.{cases_Bool}
use Rattle.sqlite.specs.Order.{Row}
use Rattle.sqlite.specs.Clock.{timed}
use Rattle.sqlite_resolve.specs.declared.compiled.Compiled.{Compiled}
use Rattle.sqlite_schema.specs.declared.command.Returning.{Returning}
use Rattle.sqlite.specs.declared.error.Error.{Error}
use Rattle.sqlite.specs.Listing.{understood}
use Rattle.sqlite.specs.State.{State, IsUnchanged, IsRolledBack, Fails, IsNotRun, shows_rows, RunsCommand}
use Rattle.sqlite.specs.State.{ExecutesIn, Executes, FailsToQuery, FailsToShow, ShowsRows, Shown}
use Rattle.sqlite.proofs.Callers.{IsPlain}
use Rattle.tb_register_sql.specs.Shelves.{IsSettled}

-- the database stays as it was, and no transaction is open
abbrev pub Stays : State → State → Type 0
Stays old new = (new.now ≡ old.now) × IsSettled new

-- a call that changes nothing leaves it
pub unchanged_stays : (old new : State) → IsSettled old → IsUnchanged old new → Stays old new
unchanged_stays old new settled same = (
  same.0.now_is,
  record {
    committed = same.0.committed_is ∙ settled.committed ∙ sym same.0.now_is;
    autocommit = same.0.mode ∙ settled.autocommit;
  },
)

-- a rollback with no transaction open undoes nothing
rolled_stays : (old new : State) → IsSettled old → IsTrue new.is_open → IsRolledBack old new → Stays old new
rolled_stays old new settled is_open back =
    let both = back.undone is_open in
    (both.0 ∙ settled.committed, record { committed = both.1 ∙ sym both.0; autocommit = back.autocommit })

-- so a failure leaves it
failed_stays : (old new : State) (too_big : Type 0) (error : Error) → IsSettled old
    → IsTrue new.is_open
    → Fails old new too_big error
    → Stays old new
failed_stays old new too_big error settled is_open fails = rolled_stays old new settled is_open fails.3

-- a text that isn't run leaves it
not_run_stays : (old new : State) (sql : List ℕ) (params : Row) (error : Error) → IsSettled old
    → IsTrue new.is_open
    → IsNotRun old new sql params error
    → Stays old new
unfolding IsNotRun
not_run_stays old new sql params error settled is_open (inl none) = unchanged_stays old new settled none.1
not_run_stays old new sql params error settled is_open (inr fails) = failed_stays old new ⊥ error settled is_open fails

-- a command that is refused or fails leaves it
command_stays : (old new : State) (sql : List ℕ) (compiled : Compiled) (params : Row) (error : Error) → IsSettled old
    → IsTrue new.is_open
    → RunsCommand old new sql compiled params (Err error)
    → Stays old new
command_stays old new sql compiled params error settled is_open (inl refused) =
    unchanged_stays old new settled refused.1
command_stays old new sql compiled params error settled is_open (inr fails) =
    failed_stays old new _ error settled is_open fails

-- a text that is executed leaves it, where that is refused
pub refused_stays : (old new : State) (sql : List ℕ) (params : Row) (error : Error) → IsSettled old
    → IsTrue new.is_open
    → Executes sql params old new (Err error)
    → Stays old new
unfolding ExecutesIn
refused_stays old new sql params error settled is_open (inl none) =
    not_run_stays old new sql params error settled is_open none
refused_stays old new sql params error settled is_open (inr ran) =
    elim (cases_Bool (shows_rows false ran.0)) [
      | inl shows ↦ unchanged_stays old new settled (rw shows at ran.2).1
      | inr runs ↦ command_stays old new sql ran.0 _ error settled is_open (rw runs at ran.2)
    ]

-- a query that can't be answered leaves it, also one that would have written
shows_stays : (old new : State) (sql : List ℕ) (compiled : Compiled) (params : Row) (error : Error)
    (returning : Option Returning) → IsSettled old
    → IsTrue new.is_open
    → FailsToShow old new sql compiled params error returning
    → Stays old new
shows_stays old new sql compiled params error None settled is_open fails = unchanged_stays old new settled fails.3
shows_stays old new sql compiled params error (Some what) settled is_open fails =
    command_stays old new sql compiled params error settled is_open fails

-- a text that is queried leaves it, where that is refused
pub unanswered_stays : (old new : State) (sql : List ℕ) (params : Row) (error : Error) → IsSettled old
    → IsTrue new.is_open
    → FailsToQuery sql params old new error
    → Stays old new
unfolding FailsToQuery
unanswered_stays old new sql params error settled is_open (inl none) =
    not_run_stays old new sql params error settled is_open none
unanswered_stays old new sql params error settled is_open (inr ran) =
    shows_stays old new sql ran.0 _ error ran.0.returning settled is_open ran.2

-- a plain query that is answered changes nothing
pub answered_stays : (old new : State) (sql : List ℕ) (params : Row) (rows : List Row)
    → IsPlain (understood old.now.schema sql)
    → IsSettled old
    → Shown sql params old new rows
    → Stays old new
unfolding Shown
answered_stays old new sql params rows plain settled shown =
    let compiled = shown.0 in
    let none = (subst IsPlain shown.1.is plain).0 in
    let given = timed params compiled.formats shown.1.now in
    let answer = subst (ShowsRows old new sql compiled given rows) none shown.2 in
    unchanged_stays old new settled answer.3
