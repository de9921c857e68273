-- The lists of numbers that stand for entries, calls and the fixed part of a room under the lock.
use Rattle.std.specs.Prelude.{◌≡◌, ℕ, zero, suc, pos, negsuc, List, [], ◌∷◌, ◌++◌, length, take, drop, map, Bool, true, false, Option, Some, None, IfSome, Contains}
use Rattle.std.specs.List.{flat_map}
use Rattle.tb_units.specs.declared.moment.Moment.{Moment}
use Rattle.tb_link.specs.Counts.{counted}
use Rattle.tb_gates.specs.Clocks.{moment_after}
use Rattle.tb_terms.specs.Refusals.{member_of}
use Rattle.tb_message.specs.declared.key.Key.{Key}
use Rattle.tb_message.specs.declared.key.Key.TheVariants as key
use Rattle.tb_message.specs.declared.message.Entry.{Entry}
use Rattle.tb_message.specs.Forms.{Part, text, whole, signed}
use Rattle.tb_message.specs.Kinds.{tag_of}
use Rattle.tb_message.specs.Messages.{kind_of, parts_of}
use Rattle.tb_message.specs.Queries.{query_kind_of, query_parts_of, query_text}
use Rattle.tb_message.specs.Spelling.{spelling, IsInRange}
use Rattle.tb_history.specs.Legal.{IsLegal}
use Rattle.tb_lock.specs.declared.view.Call.{Call}
use Rattle.tb_lock.specs.declared.view.Span.{Span}
use Rattle.tb_lock.specs.Meanings.{History, Answer as Kind, accepted, repeated, faulted, entryless}
use Rattle.tb_session.specs.declared.answer.Answer.{Answer}
use Rattle.tb_session.specs.declared.called.Ask.{Ask}
use Rattle.tb_session.specs.declared.called.Ask.TheVariants as ask
use Rattle.tb_session.specs.declared.called.Called.{Called}
use Rattle.tb_session.specs.declared.called.Outcome.{Outcome}
use Rattle.tb_session.specs.declared.called.Outcome.TheVariants as outcome
use Rattle.tb_session.specs.Calls.{ComesOut, IsAnswerBy, IsGiven}

-- ---- entries

-- an entry is its record in the journal, and a history the list of them
abbrev pub spelled_all : List Entry → History
spelled_all entries = map spelling entries

-- ---- calls

-- a text behind its length
abbrev pub sized : List ℕ → List ℕ
sized bytes = length bytes ∷ bytes

abbrev pub key_code : Key → List ℕ
key_code (key.Submitter word) = 0 ∷ sized word
key_code (key.Operator word) = 1 ∷ sized word

-- a value of a member
abbrev pub part_code : Part → List ℕ
part_code (text bytes) = 0 ∷ sized bytes
part_code (whole number) = 1 ∷ number ∷ []
part_code (signed (pos number)) = 2 ∷ number ∷ []
part_code (signed (negsuc number)) = 3 ∷ number ∷ []

abbrev pub parts_code : List Part → List ℕ
parts_code parts = flat_map part_code parts

abbrev pub ask_code : Ask → List ℕ
ask_code (ask.Message number message) = 0 ∷ number ∷ tag_of (kind_of message) ∷ parts_code (parts_of message)
ask_code (ask.Query query) = 1 ∷ (sized (query_text (query_kind_of query)) ++ parts_code (query_parts_of query))
ask_code ask.BadJson = 2 ∷ []
ask_code (ask.BadShape member) = 3 ∷ member_of member

abbrev pub outcome_code : Outcome → ℕ
outcome_code (outcome.Added e) = 0
outcome_code (outcome.Stood e) = 1
outcome_code (outcome.Doubted e) = 2
outcome_code outcome.Told = 3
outcome_code outcome.Lacked = 4

abbrev pub entry_of : Outcome → List ℕ
entry_of (outcome.Added e) = spelling e
entry_of (outcome.Stood e) = spelling e
entry_of (outcome.Doubted e) = spelling e
entry_of outcome.Told = []
entry_of outcome.Lacked = []

-- where it has one, that entry is in range
abbrev pub HasRange : Outcome → Type 0
HasRange (outcome.Added e) = IsInRange e
HasRange (outcome.Stood e) = IsInRange e
HasRange (outcome.Doubted e) = IsInRange e
HasRange outcome.Told = Unit {0}
HasRange outcome.Lacked = Unit {0}

abbrev pub moment_code : Option Moment → ℕ
moment_code None = 0
moment_code (Some moment) = suc moment.seconds

-- a call is how it came out, its moment, its entry behind the length of it, its key and its ask
abbrev pub code_of : Called → List ℕ
code_of c =
    outcome_code c.outcome ∷ moment_code c.moment ∷ length (entry_of c.outcome)
    ∷ (entry_of c.outcome ++ (key_code c.key ++ ask_code c.ask))

-- what the lock reads in such a list: how the call was answered,
abbrev pub kind_at : ℕ → Kind
kind_at zero = accepted
kind_at (suc zero) = repeated
kind_at (suc (suc zero)) = faulted
kind_at (suc (suc (suc n))) = entryless

abbrev pub kind_in : List ℕ → Kind
kind_in [] = entryless
kind_in (first ∷ others) = kind_at first

-- its moment in seconds,
abbrev pub moment_at : ℕ → Option ℕ
moment_at zero = None
moment_at (suc seconds) = Some seconds

abbrev pub moment_in : List ℕ → Option ℕ
moment_in [] = None
moment_in (first ∷ []) = None
moment_in (first ∷ moment ∷ others) = moment_at moment

-- and its entry
abbrev pub entry_in : List ℕ → List ℕ
entry_in [] = []
entry_in (first ∷ []) = []
entry_in (first ∷ moment ∷ []) = []
entry_in (first ∷ moment ∷ size ∷ others) = take size others

-- ---- the fixed part

abbrev pub told_code : Bool → ℕ
told_code true = 1
told_code false = 0

abbrev pub moments_code : Option (List ℕ) → List ℕ
moments_code None = 0 ∷ []
moments_code (Some moments) = 1 ∷ sized moments

-- The operator's name behind its length; whether the disk tells its contents, and its count of faults at the end of the
-- opening; and the moments that the clock may give, behind their number, where it tells them.
abbrev pub fixed_code : List ℕ → Bool → ℕ → Option (List ℕ) → List ℕ
fixed_code name told faults moments = length name ∷ (name ++ told_code told ∷ faults ∷ moments_code moments)

-- the operator's name in it
abbrev pub operator_in : List ℕ → List ℕ
operator_in [] = []
operator_in (size ∷ others) = take size others

-- the moments in what stands behind the name
abbrev pub moments_at : List ℕ → Option (List ℕ)
moments_at [] = None
moments_at (told ∷ []) = None
moments_at (told ∷ faults ∷ []) = None
moments_at (told ∷ faults ∷ zero ∷ others) = None
moments_at (told ∷ faults ∷ suc given ∷ []) = None
moments_at (told ∷ faults ∷ suc given ∷ size ∷ others) = Some (take size others)

abbrev pub moments_in : List ℕ → Option (List ℕ)
moments_in [] = None
moments_in (size ∷ others) = moments_at (drop size others)

-- of a clock with these moments this is one, and it is given at the reading of this number: the next after those before
abbrev pub GivesAt : ℕ → Moment → List ℕ → Type 0
GivesAt readings moment moments =
    Contains moments moment.seconds
    × ((before : ℕ) × (readings ≡ counted before) × (moment.seconds ≡ moment_after before moments))

-- where the clock tells its moments it gives this one at the reading of this number
abbrev pub GivesMoment : List ℕ → ℕ → Moment → Type 0
GivesMoment fixed readings moment = IfSome (moments_in fixed) (GivesAt readings moment)

-- ---- calls that were made

-- With this fixed part the call was answered on this legal history, between these counts of faults; its entry is in
-- range; and the moment of a message is what the clock gives at the last of so many readings.
pub record IsAnswered (fixed : List ℕ) (history : List Entry) (c : Called) (before after readings : ℕ) : Type 0 where
  pub legal : IsLegal history
  pub in_range : HasRange c.outcome
  pub comes_out : ComesOut (operator_in fixed) history c c.outcome before after
  pub given : IsGiven c.ask c.moment
  pub timed : (moment : Moment) → c.moment ≡ Some moment → GivesMoment fixed readings moment

-- a call that was made: on which history, the counts of faults before and after, and how many readings the clock had
-- given at the end of its turn
pub record Made : Type 0 where
  pub called : Called
  pub history : List Entry
  pub before : ℕ
  pub after : ℕ
  pub readings : ℕ

-- the same as the lock keeps it
abbrev pub call_of : Made → Call
call_of m = record {
  code = code_of m.called;
  prefix = spelled_all m.history;
  faults_before = m.before;
  faults_after = m.after;
  readings = m.readings;
}

-- and the counts of faults of its turn
abbrev pub span_of : Made → Span
span_of m = record { before = m.before; after = m.after }

-- the call has this answer
abbrev pub IsAnswerOf : List ℕ → Made → Answer → Type 0
IsAnswerOf fixed m said = IsAnswerBy (operator_in fixed) m.history m.called m.called.outcome said
