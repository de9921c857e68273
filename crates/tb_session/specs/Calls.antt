-- Calls of a room, and what they are answered on a history.
use Rattle.std.specs.Prelude.{◌≡◌, ◌↔◌, ℕ, ◌≤◌, List, Option, Some, None, Contains}
use Rattle.tb_units.specs.declared.moment.Moment.{Moment}
use Rattle.tb_terms.specs.declared.refusal.Refusal.{Refusal}
use Rattle.tb_terms.specs.declared.refusal.Refusal.TheVariants as refusal
use Rattle.tb_message.specs.declared.key.Key.{Key}
use Rattle.tb_message.specs.declared.message.Entry.{Entry}
use Rattle.tb_message.specs.declared.query.Query.{Query}
use Rattle.tb_message.specs.declared.verdict.Verdict.TheVariants as verdict
use Rattle.tb_history.specs.Answer.{caller_of, verdict_for, refusal_for, query_refusal}
use Rattle.tb_history.specs.Legal.{running}
use Rattle.tb_history.specs.Readings.{IsReading}
use Rattle.tb_history.specs.Roster.{registrations}
use Rattle.tb_history.specs.Verdict.{verdict_on}
use Rattle.tb_lock.specs.Turns.{IsReadBetween}
use Rattle.tb_session.specs.declared.answer.Answer.{Answer}
use Rattle.tb_session.specs.declared.answer.Answer.TheVariants as answer
use Rattle.tb_session.specs.declared.called.Ask.{Ask}
use Rattle.tb_session.specs.declared.called.Ask.TheVariants as ask
use Rattle.tb_session.specs.declared.called.Called.{Called}
use Rattle.tb_session.specs.declared.called.Outcome.{Outcome}
use Rattle.tb_session.specs.declared.called.Outcome.TheVariants as outcome

-- the caller of a key on a history, where the operator's key is `op:` and this name
abbrev pub caller_on : List ℕ → List Entry → Key → Option (List ℕ)
caller_on operator history key = caller_of (registrations history) operator key

-- a refusal
abbrev pub refused : Refusal → Answer
refused why = answer.Verdict (verdict.Refused why)

-- what couldn't be read is refused to a caller by its fault, and to nobody because the key is unknown
abbrev pub fault_for : Option (List ℕ) → Refusal → Answer
fault_for None why = refused refusal.UnknownKey
fault_for (Some caller) why = refused why

-- that the key is unknown is told exactly where it has no caller
abbrev pub TellsUnknown : Option (List ℕ) → Answer → Type 0
TellsUnknown caller said = (said ≡ refused refusal.UnknownKey) ↔ (caller ≡ None)

-- a query is told its refusal, or else its reading
abbrev pub TellsQuery : List Entry → Option (List ℕ) → Query → Answer → Type 0
TellsQuery history caller query (answer.Verdict (verdict.Refused why)) = refusal_for history caller query ≡ Some why
TellsQuery history (Some caller) query (answer.Reading reading) =
    (query_refusal history caller query ≡ None) × IsReading history caller query reading
TellsQuery history caller query other = ⊥

-- what a caller, or nobody, is answered on a history: a message that came at this moment gets its verdict at the
-- running moment, a query its reading or refusal, and what couldn't be read its fault
abbrev pub Tells : List Entry → Option (List ℕ) → Ask → Option Moment → Answer → Type 0
Tells history caller (ask.Message number message) (Some moment) said =
    said ≡ answer.Verdict (verdict_for history caller number moment message)
Tells history caller (ask.Query query) None said = TellsQuery history caller query said
Tells history caller ask.BadJson None said = said ≡ fault_for caller refusal.BadJson
Tells history caller (ask.BadShape member) None said = said ≡ fault_for caller (refusal.BadShape member)
Tells history caller asked given said = ⊥

-- an answer that has no entry: a refusal or a reading
abbrev pub IsEntryless : Answer → Type 0
IsEntryless (answer.Verdict (verdict.Refused why)) = Unit {0}
IsEntryless (answer.Reading reading) = Unit {0}
IsEntryless other = ⊥

-- a message has a moment, and nothing else has
abbrev pub IsGiven : Ask → Option Moment → Type 0
IsGiven (ask.Message number message) given = (moment : Moment) × (given ≡ Some moment)
IsGiven other given = given ≡ None

-- the running moment of the one that was handed in
abbrev pub RunsAt : List Entry → Option Moment → Moment → Type 0
RunsAt history given moment = (at : Moment) × (given ≡ Some at) × (moment ≡ running history at)

-- the call is a message, and this is an entry of it: its caller's, under its number
pub record IsEntryOf (operator : List ℕ) (history : List Entry) (c : Called) (e : Entry) : Type 0 where
  pub asked : c.ask ≡ ask.Message e.number e.message
  pub caller : caller_on operator history c.key ≡ Some e.submitter

-- a fault was counted: the count rose, or stands at its last value
abbrev pub Faulted : ℕ → ℕ → Type 0
Faulted before after = (before ≤ after) × IsReadBetween before after

-- How a call came out on a history: its entry was accepted, at the running moment; or stands there; or its message met
-- a fault that was counted; or it was told what has no entry; or there was no memory.
abbrev pub ComesOut : List ℕ → List Entry → Called → Outcome → ℕ → ℕ → Type 0
ComesOut operator history c (outcome.Added e) before after =
    IsEntryOf operator history c e × RunsAt history c.moment e.moment
    × (verdict_on history e.submitter e.number e.moment e.message ≡ verdict.Accepted e.number e.moment)
ComesOut operator history c (outcome.Stood e) before after =
    IsEntryOf operator history c e × Contains history e
    × ((moment : Moment) × RunsAt history c.moment moment
    × (verdict_on history e.submitter e.number moment e.message ≡ verdict.Repeat e.number e.moment))
ComesOut operator history c (outcome.Doubted e) before after =
    IsEntryOf operator history c e × RunsAt history c.moment e.moment × Faulted before after
ComesOut operator history c outcome.Told before after =
    (said : Answer) × Tells history (caller_on operator history c.key) c.ask c.moment said × IsEntryless said
ComesOut operator history c outcome.Lacked before after = Unit {0}

-- The call's answer: that of the history, or a disk fault, or want of memory.
abbrev pub IsAnswerBy : List ℕ → List Entry → Called → Outcome → Answer → Type 0
IsAnswerBy operator history c (outcome.Doubted e) said = said ≡ answer.DiskFault
IsAnswerBy operator history c outcome.Lacked said = said ≡ answer.OutOfMemory
IsAnswerBy operator history c other said = Tells history (caller_on operator history c.key) c.ask c.moment said
