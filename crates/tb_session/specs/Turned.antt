-- What one call does to the room.
use Rattle.std.specs.Prelude.{◌≡◌, ℕ, ◌-◌, ◌≤◌, ◌⊎◌, List, [], ◌∷◌, ◌++◌, length, Option, Some, None}
use Rattle.tb_units.specs.declared.moment.Moment.{Moment}
use Rattle.tb_terms.specs.declared.refusal.Refusal.{Refusal}
use Rattle.tb_terms.specs.declared.refusal.Refusal.TheVariants as refusal
use Rattle.tb_disk.specs.Disks.{DiskState}
use Rattle.tb_message.specs.declared.key.Key.{Key}
use Rattle.tb_message.specs.declared.query.Query.{Query}
use Rattle.tb_message.specs.declared.message.Entry.{Entry}
use Rattle.tb_message.specs.declared.message.Message.{Message}
use Rattle.tb_message.specs.declared.verdict.Verdict.{Verdict}
use Rattle.tb_message.specs.declared.verdict.Verdict.TheVariants as verdict
use Rattle.tb_message.specs.Spelling.{IsNumbered}
use Rattle.tb_history.specs.Legal.{IsLegal}
use Rattle.tb_core.specs.Rooms.{Fits, behind}
use Rattle.tb_report.specs.Readings.{IsPrintable}
use Rattle.tb_gates.specs.Clocks.{ClockState, ReadsClock}
use Rattle.tb_desk.specs.Turn.{Held, IsOneOf}
use Rattle.tb_desk.specs.Stands.{CrashesLeave}
use Rattle.tb_desk.specs.Desks.{DeskView, IsSame, held}
use Rattle.tb_session.specs.declared.answer.Answer.{Answer}
use Rattle.tb_session.specs.declared.answer.Answer.TheVariants as answer
use Rattle.tb_session.specs.declared.called.Ask.{Ask}
use Rattle.tb_session.specs.declared.called.Ask.TheVariants as ask
use Rattle.tb_session.specs.declared.called.Called.{Called}
use Rattle.tb_session.specs.declared.called.Outcome.{Outcome}
use Rattle.tb_session.specs.declared.called.Outcome.TheVariants as outcome
use Rattle.tb_session.specs.declared.room.Room.{Room}
use Rattle.tb_session.specs.declared.turn.Turn.{Turn}
use Rattle.tb_session.specs.Calls.{ComesOut, IsAnswerBy, IsGiven, caller_on}
use Rattle.tb_session.specs.Codes.{HasRange, code_of}

-- a message as it is called, at a moment
abbrev pub message_call : Key → ℕ → Moment → Message → Outcome → Called
message_call k number moment message came =
    record { key = k; ask = ask.Message number message; moment = Some moment; outcome = came }

-- a query as it is called
abbrev pub query_call : Key → Query → Outcome → Called
query_call k query came = record { key = k; ask = ask.Query query; moment = None; outcome = came }

-- how a caller's message came out, by its verdict
abbrev pub outcome_by : List ℕ → ℕ → Message → Verdict → Outcome
outcome_by caller number message (verdict.Accepted given moment) =
    outcome.Added record { submitter = caller; number = number; moment = moment; message = message }
outcome_by caller number message (verdict.Repeat given moment) =
    outcome.Stood record { submitter = caller; number = number; moment = moment; message = message }
outcome_by caller number message (verdict.Refused why) = outcome.Told

-- the entry that a call adds
abbrev pub added_by : Outcome → List Entry
added_by (outcome.Added e) = e ∷ []
added_by other = []

-- how many entries stood before a call that came out so
abbrev pub before_of : Outcome → List Entry → ℕ
before_of (outcome.Added e) history = length history - 1
before_of other history = length history

-- the group in doubt afterwards: none, or the one that was there, where nothing changed, or the entry of this call
abbrev pub LeavesDoubt : Held → Held → Outcome → Type 0
LeavesDoubt old new came = (new.doubt ≡ [])
    ⊎ (((new.doubt ≡ old.doubt) × (new.history ≡ old.history))
    ⊎ ((e : Entry) × (came ≡ outcome.Doubted e) × (new.doubt ≡ e ∷ [])))

-- where a caller's message is told a verdict nothing is in doubt
abbrev pub IsSure : List ℕ → List Entry → Called → Answer → List Entry → Type 0
IsSure operator at c said doubt = (moment : Moment) (caller : List ℕ) (given : Verdict)
    → c.moment ≡ Some moment
    → caller_on operator at c.key ≡ Some caller
    → said ≡ answer.Verdict given
    → doubt ≡ []

-- What a call does to what a desk holds: what was in doubt is settled or stays, and then the call is answered on that
-- history, which grows by its entry where it was accepted.
pub record Does (operator : List ℕ) (old new : Held) (low high : ℕ) (c : Called) (said : Answer) : Type 0 where
  pub at : List Entry
  pub legal : IsLegal at
  pub settled : (at ≡ old.history) ⊎ (at ≡ old.history ++ old.doubt)
  pub grown : new.history ≡ at ++ added_by c.outcome
  pub doubt : LeavesDoubt old new c.outcome
  pub sure : IsSure operator at c said new.doubt
  pub comes_out : ComesOut operator at c c.outcome low high
  pub in_range : HasRange c.outcome
  pub given : IsGiven c.ask c.moment
  pub least : low ≤ high
  pub answer : IsAnswerBy operator at c c.outcome said

-- a message reads the clock once, and nothing else does
abbrev pub Reads : Option Moment → ClockState → ClockState → Type 0
Reads None old new = new ≡ old
Reads (Some moment) old new = ReadsClock old new moment.seconds

-- a reading can be printed
abbrev pub CanBeTold : Answer → Type 0
CanBeTold (answer.Reading reading) = IsPrintable reading
CanBeTold other = Unit {0}

-- what is asked can be entered under its number
abbrev pub IsNumberedAsk : Ask → Type 0
IsNumberedAsk (ask.Message number message) = IsNumbered number message
IsNumberedAsk other = Unit {0}

-- a desk has no room for the message that is asked, behind what is in doubt
abbrev pub LacksRoom : {D : Type 0} → Ask → DeskView D → Type 0
LacksRoom (ask.Message number message) desk = ¬ Fits desk.host.room (behind desk.doubt message)
LacksRoom other desk = Unit {0}

-- why what was asked couldn't be read
abbrev pub IsFaultOf : Ask → Refusal → Type 0
IsFaultOf ask.BadJson why = why ≡ refusal.BadJson
IsFaultOf (ask.BadShape member) why = why ≡ refusal.BadShape member
IsFaultOf other why = ⊥

-- the one call of a turn, and how many entries stood before it
abbrev pub told_of : Turn → List (List ℕ × ℕ)
told_of turn = (code_of turn.called, turn.before) ∷ []

module _ {D C : Type 0} where
  -- the desk is as it was, but for the memory that it holds: so are its disk and the count of that disk's faults
  pub record LeavesDesk (old new : Room D C) : Type 0 where
    pub history : new.desk.host.history ≡ old.desk.host.history
    pub same : IsSame old.desk new.desk

module _ {D C : Type 0} (disk : D → DiskState) (clock : C → ClockState) where
  -- what stays in every call: the operator, the disk as the opening left it, and how many entries were recovered
  pub record SameHouse (old new : Room D C) : Type 0 where
    pub operator : new.operator ≡ old.operator
    pub opened : new.desk.opened ≡ old.desk.opened
    pub recovered : new.desk.recovered ≡ old.desk.recovered

  -- the room made this call, and answered so
  pub record Calls (old new : Room D C) (c : Called) (said : Answer) : Type 0 where
    pub does : Does old.operator (held old.desk) (held new.desk) old.desk.faults new.desk.faults c said
    pub reads : Reads c.moment (clock old.clock) (clock new.clock)
    pub same : SameHouse old new
    pub printable : CanBeTold said
    -- each crash during the call left the history before it or after it, with or without the group in doubt then
    pub crash : CrashesLeave (IsOneOf (held old.desk) (held new.desk)) (disk old.desk.disk) (disk new.desk.disk)
