-- What a group of bids does to the room: up to 64 of one key, under one gate.
use Rattle.std.specs.Prelude.{◌≡◌, ℕ, ◌-◌, ◌≤◌, ◌⊎◌, List, [], ◌∷◌, ◌++◌, length, map, replicate, take, flat_map, Option, Some, None, All}
use Rattle.tb_units.specs.declared.moment.Moment.{Moment}
use Rattle.tb_terms.specs.declared.refusal.Refusal.TheVariants as refusal
use Rattle.tb_message.specs.declared.key.Key.{Key}
use Rattle.tb_message.specs.declared.message.Entry.{Entry}
use Rattle.tb_message.specs.declared.message.Message.{Message}
use Rattle.tb_message.specs.declared.verdict.Verdict.{Verdict}
use Rattle.tb_history.specs.Legal.{IsLegal}
use Rattle.tb_disk.specs.Disks.{DiskState}
use Rattle.tb_gates.specs.Clocks.{ClockState, ReadsClock}
use Rattle.tb_desk.specs.Stands.{CrashesLeave}
use Rattle.tb_desk.specs.Turn.{Held, IsOneOf, added}
use Rattle.tb_desk.specs.Desks.{held}
use Rattle.tb_session.specs.declared.answer.Answer.{Answer}
use Rattle.tb_session.specs.declared.answer.Answer.TheVariants as answer
use Rattle.tb_session.specs.declared.answer.GroupAnswer.{GroupAnswer}
use Rattle.tb_session.specs.declared.answer.GroupAnswer.TheVariants as group
use Rattle.tb_session.specs.declared.called.Ask.TheVariants as ask
use Rattle.tb_session.specs.declared.called.Called.{Called}
use Rattle.tb_session.specs.declared.called.Outcome.{Outcome}
use Rattle.tb_session.specs.declared.called.Outcome.TheVariants as outcome
use Rattle.tb_session.specs.declared.groups.Grouped.{Grouped}
use Rattle.tb_session.specs.declared.groups.Grouped.TheVariants as grouped
use Rattle.tb_session.specs.declared.room.Room.{Room}
use Rattle.tb_session.specs.Calls.{ComesOut, IsAnswerBy, IsGiven, TellsUnknown, refused}
use Rattle.tb_lock.specs.declared.view.View.{View}
use Rattle.tb_session.specs.declared.groups.GroupTurn.{GroupTurn}
use Rattle.tb_session.specs.Gains.{Gains, GainsTogether}
use Rattle.tb_session.specs.Codes.{HasRange, code_of}
use Rattle.tb_session.specs.Turned.{IsSure, SameHouse, added_by, message_call, outcome_by}

-- a call, and what it was answered
pub record Replied : Type 0 where
  pub called : Called
  pub said : Answer

-- what calls were answered, in order
abbrev pub said_in : List Replied → List Answer
said_in replied = map (λ r. r.said) replied

-- the entries that calls add, in order
abbrev pub added_in : List Replied → List Entry
added_in replied = flat_map (λ r. added_by r.called.outcome) replied

-- a call came out on this history, and was answered by it
pub record IsReplied (operator : List ℕ) (at : List Entry) (low high : ℕ) (r : Replied) : Type 0 where
  pub legal : IsLegal at
  pub comes_out : ComesOut operator at r.called r.called.outcome low high
  pub in_range : HasRange r.called.outcome
  pub given : IsGiven r.called.ask r.called.moment
  pub answer : IsAnswerBy operator at r.called r.called.outcome r.said

-- each call was answered on this history and behind it the entries of the calls before it that were accepted
abbrev pub AreReplied : List ℕ → List Entry → ℕ → ℕ → List Replied → Type 0
AreReplied operator at low high [] = Unit {0}
AreReplied operator at low high (r ∷ others) =
    IsReplied operator at low high r × AreReplied operator (at ++ added_by r.called.outcome) low high others

-- what a message that met a fault would add to this history: its entry, where it would be accepted
abbrev pub would_add : List Entry → Outcome → List Entry
would_add at (outcome.Doubted e) = added at e.submitter e.moment (e.number, e.message)
would_add at other = []

-- the group of messages that met a fault: what they would add to this history, each behind those before it
abbrev pub in_doubt : List Entry → List Replied → List Entry
in_doubt at [] = []
in_doubt at (r ∷ others) =
    would_add at r.called.outcome ++ in_doubt (at ++ would_add at r.called.outcome) others

-- the group in doubt afterwards: none, or the one that was there, where nothing changed, or all that these calls would
-- add to the history on which they were answered
abbrev pub LeaveDoubt : Held → Held → List Entry → List Replied → Type 0
LeaveDoubt old new at replied = (new.doubt ≡ [])
    ⊎ (((new.doubt ≡ old.doubt) × (new.history ≡ old.history))
    ⊎ (new.doubt ≡ in_doubt at replied))

-- What calls under one gate do to what a desk holds: what was in doubt is settled or stays, and then each is answered
-- on that history and the entries of the calls before it, and the history grows by the entries of those that were
-- accepted.
pub record DoTogether (operator : List ℕ) (old new : Held) (low high : ℕ) (replied : List Replied) : Type 0 where
  pub at : List Entry
  pub settled : (at ≡ old.history) ⊎ (at ≡ old.history ++ old.doubt)
  pub grown : new.history ≡ at ++ added_in replied
  pub doubt : LeaveDoubt old new at replied
  pub sure : All (λ r. IsSure operator at r.called r.said new.doubt) replied
  pub answered : AreReplied operator at low high replied
  pub least : low ≤ high

-- these calls are of these messages, in order, with this key and at this moment
abbrev pub AreCallsOf : Key → Moment → List (ℕ × Message) → List Replied → Type 0
AreCallsOf k moment [] [] = Unit {0}
AreCallsOf k moment (asked ∷ messages) (r ∷ replied) =
    (r.called.key ≡ k) × (r.called.ask ≡ ask.Message asked.0 asked.1) × (r.called.moment ≡ Some moment)
    × AreCallsOf k moment messages replied
AreCallsOf k moment messages replied = ⊥

-- What a group is answered: each message its verdict, told in the first places, in order. Or all of them met a fault,
-- or there was no memory, and no place tells anything.
abbrev pub TellsGroup : GroupAnswer → List (Option Verdict) → List Answer → Type 0
TellsGroup group.Verdicts places said =
    (given : List Verdict) × (said ≡ map answer.Verdict given)
    × (places ≡ map Some given ++ replicate (64 - length given) None)
TellsGroup group.DiskFault places said = All (λ a. a ≡ answer.DiskFault) said × (places ≡ replicate 64 None)
TellsGroup group.OutOfMemory places said = All (λ a. a ≡ answer.OutOfMemory) said × (places ≡ replicate 64 None)

-- that the key is unknown is told in each call exactly where it has no caller
abbrev pub TellUnknown : Option (List ℕ) → List Replied → Type 0
TellUnknown caller replied = All (λ r. TellsUnknown caller r.said) replied

module _ {D C : Type 0} (disk : D → DiskState) (clock : C → ClockState) where
  -- the room made calls of these messages under one gate, at one reading of the clock
  pub record CallsTogether (old new : Room D C) (k : Key) (messages : List (ℕ × Message)) (moment : Moment)
      (replied : List Replied) : Type 0 where
    pub calls : AreCallsOf k moment messages replied
    pub does : DoTogether old.operator (held old.desk) (held new.desk) old.desk.faults new.desk.faults replied
    pub reads : ReadsClock (clock old.clock) (clock new.clock) moment.seconds
    pub same : SameHouse disk clock old new
    -- each crash during the calls left the history before them or after them, with or without the group in doubt then
    pub crash : CrashesLeave (IsOneOf (held old.desk) (held new.desk)) (disk old.desk.disk) (disk new.desk.disk)

-- ---- the calls of a group, by how it came out

-- how a message came out, and what it was answered, where its place tells this
abbrev pub outcome_in : Grouped → ℕ × Message → Option Verdict → Outcome
outcome_in (grouped.Told caller) asked (Some said) = outcome_by caller asked.0 asked.1 said
outcome_in (grouped.Told caller) asked None = outcome.Told
outcome_in grouped.Unknown asked place = outcome.Told
outcome_in (grouped.Doubted caller moment) asked place =
    outcome.Doubted record { submitter = caller; number = asked.0; moment = moment; message = asked.1 }
outcome_in grouped.Lacked asked place = outcome.Lacked

abbrev pub answer_in : Grouped → Option Verdict → Answer
answer_in (grouped.Told caller) (Some said) = answer.Verdict said
answer_in (grouped.Told caller) None = refused refusal.UnknownKey
answer_in grouped.Unknown place = refused refusal.UnknownKey
answer_in (grouped.Doubted caller moment) place = answer.DiskFault
answer_in grouped.Lacked place = answer.OutOfMemory

-- what the whole group is answered
abbrev pub answer_of : Grouped → GroupAnswer
answer_of grouped.Unknown = group.Verdicts
answer_of (grouped.Told caller) = group.Verdicts
answer_of (grouped.Doubted caller moment) = group.DiskFault
answer_of grouped.Lacked = group.OutOfMemory

abbrev pub replied_in : Key → Moment → Grouped → ℕ × Message → Option Verdict → Replied
replied_in k moment came asked place =
    record { called = message_call k asked.0 moment asked.1 (outcome_in came asked place); said = answer_in came place }

-- the calls of these messages, where the places tell this
abbrev pub replied_by : Key → Moment → Grouped → List (ℕ × Message) → List (Option Verdict) → List Replied
replied_by k moment came [] places = []
replied_by k moment came (asked ∷ messages) [] =
    replied_in k moment came asked None ∷ replied_by k moment came messages []
replied_by k moment came (asked ∷ messages) (place ∷ places) =
    replied_in k moment came asked place ∷ replied_by k moment came messages places

-- ---- a turn of a group

-- the calls as the lock is told them, each with how many entries stood before it, where so many stand after the last
abbrev pub told_back : ℕ → List Replied → List (List ℕ × ℕ)
told_back total [] = []
told_back total (r ∷ others) =
    (code_of r.called, total - length (added_in (r ∷ others))) ∷ told_back total others

-- none, where there was no memory
abbrev pub told_group : Grouped → ℕ → List Replied → List (List ℕ × ℕ)
told_group grouped.Lacked total replied = []
told_group (grouped.Told caller) total replied = told_back total replied
told_group grouped.Unknown total replied = told_back total replied
told_group (grouped.Doubted caller moment) total replied = told_back total replied

abbrev pub told_together : GroupTurn → List (List ℕ × ℕ)
told_together turn =
    told_group turn.came turn.entries
    (replied_by turn.key turn.moment turn.came turn.bids.value.items turn.verdicts.value)

-- the answer to the bid of a place
abbrev pub answer_at : GroupAnswer → Option Verdict → Answer
answer_at group.Verdicts (Some said) = answer.Verdict said
answer_at group.Verdicts None = answer.OutOfMemory
answer_at group.DiskFault place = answer.DiskFault
answer_at group.OutOfMemory place = answer.OutOfMemory

-- the answers to so many bids
abbrev pub answers_at : GroupAnswer → List (Option Verdict) → ℕ → List Answer
answers_at said places count = map (λ place. answer_at said place) (take count places)

-- A group that had no memory made no call. The bids of any other shared a turn, with the answers that the places tell.
abbrev pub GainsGroup : View → View → Key → List (ℕ × Message) → GroupAnswer → List (Option Verdict) → Type 0
GainsGroup old new k bids group.OutOfMemory places = Gains old new []
GainsGroup old new k bids group.Verdicts places =
    GainsTogether old new k bids (answers_at group.Verdicts places (length bids))
GainsGroup old new k bids group.DiskFault places =
    GainsTogether old new k bids (answers_at group.DiskFault places (length bids))
