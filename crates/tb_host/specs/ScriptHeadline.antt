-- The headline of `run`, `import` and `follow take`, from the first history to the one that the disk keeps: along one
-- chain of where the desk stood, of each line of a script, of each run of rows of a table, and of each parcel.
use Rattle.std.specs.Prelude.{◌≡◌, ◌≢◌, ◌⊎◌, ℕ, List, [], ◌∷◌, ◌++◌, map, Option, Some, None, Result, Ok, All, Any, Contains, IfSome, ⊤}
use Rattle.std.specs.List.{flat_map}
use Rattle.tb_units.specs.declared.moment.Moment.{Moment}
use Rattle.tb_disk.specs.Disks.{DiskState}
use Rattle.tb_gates.specs.Clocks.{ClockState, ReadsClock}
use Rattle.tb_terms.specs.declared.refusal.Refusal.{Refusal}
use Rattle.tb_terms.specs.declared.refusal.Refusal.TheVariants as refusal
use Rattle.tb_message.specs.declared.key.Key.{Key}
use Rattle.tb_message.specs.declared.message.Entry.{Entry}
use Rattle.tb_message.specs.declared.query.Query.{Query}
use Rattle.tb_message.specs.declared.query.Request.{Request}
use Rattle.tb_message.specs.declared.query.Request.TheVariants as request
use Rattle.tb_message.specs.declared.verdict.Verdict.{Verdict}
use Rattle.tb_message.specs.declared.verdict.Verdict.TheVariants as verdict
use Rattle.tb_history.specs.declared.reading.Reading.{Reading}
use Rattle.tb_history.specs.Answer.{caller_of, query_refusal}
use Rattle.tb_history.specs.Legal.{IsLegal, running}
use Rattle.tb_history.specs.OwnPart.{own_part}
use Rattle.tb_history.specs.Roster.{registrations}
use Rattle.tb_desk.specs.Turn.{AreBids, Asked, Replies, verdicts}
use Rattle.tb_parcel.specs.declared.parcel.Parcel.{Parcel}
use Rattle.tb_replica.specs.Followers.{IsFresh}
use Rattle.tb_replica.specs.Following as followed
use Rattle.tb_replica.specs.Following.{Following, Outcome}
use Rattle.tb_commands.specs.Doubted.{IsOfLines, IsOfParcels, IsOfRuns}
use Rattle.tb_host.specs.Headline.{Begins, Headline, IsByTheRule, ReadsPublished, Wording}
use Rattle.tb_commands.specs.ImportRun.{AreSent, SentRow, group_text}
use Rattle.tb_commands.specs.Replies.{Asks, IsSaid, IsSealed, reading_text, refused}
use Rattle.tb_commands.specs.ScriptLines.{SpellsAsk}
use Rattle.tb_commands.specs.ScriptRun.{IsActedOn}
use Rattle.tb_commands.specs.Standings.{Standing}
use Rattle.tb_commands.specs.Turns.{told, unavailable}
use Rattle.tb_commands.specs.declared.sender.Sender.{Sender}

-- ---- all three commands

-- the history is legal, begins with the first, and begins the last
pub record IsBetween (first last history : List Entry) : Type 0 where
  pub legal : IsLegal history
  pub has_first : Begins first history
  pub begins : Begins history last

-- the line of an entry's acceptance, and of a repeat of it
abbrev pub accepted_line : Entry → List ℕ
accepted_line e = told (verdict.Accepted e.number e.moment)

-- each was asked where those before it left the state: one chain of states, from the first to the last
abbrev pub Along : {S A : Type 0} → (S → A → S → Type 0) → S → List A → S → Type 0
Along Steps begun [] ended = ended ≡ begun
Along {S} Steps begun (one ∷ others) ended = (next : S) × Steps begun one next × Along Steps next others ended

-- ---- a script

-- a line as it was replied to: whose its key was, its moment, its text, the reply, and the history on which that stands
pub record Replied : Type 0 where
  pub line : List ℕ
  pub caller : Option (List ℕ)
  pub moment : Moment
  pub json : List ℕ
  pub history : List Entry
  pub reply : List ℕ

-- the reply is what the history says to what the text asks, and to nobody that the key is unknown
abbrev pub Says : List Entry → Option (List ℕ) → Moment → List ℕ → List ℕ → Type 0
Says history None moment json reply = reply ≡ refused refusal.UnknownKey
Says history (Some caller) moment json reply =
    (asked : Result Request Refusal) × Asks json asked × IsSaid history caller moment asked reply

-- the line was acknowledged with this entry: it asks the entry's message, and the reply is that it was accepted
pub record IsAcknowledged (line : Replied) (e : Entry) : Type 0 where
  pub caller : line.caller ≡ Some e.submitter
  pub asked : Asks line.json (Ok (request.Message e.number e.message))
  pub accepted : line.reply ≡ accepted_line e

-- The reply is what one history says, or tells that the disk failed. The last history has the entry of an acknowledged
-- line.
pub record IsRepliedIn (first last : List Entry) (line : Replied) : Type 0 where
  pub between : IsBetween first last line.history
  pub said : (line.reply ≡ unavailable) ⊎ Says line.history line.caller line.moment line.json line.reply
  pub has : (e : Entry) → IsAcknowledged line e → Contains last e

-- where results or awards are asked and aren't refused, the reply is a reading that is by the circular's rule, on the
-- bids accepted before closing
abbrev pub IsToldByTheRule : List Entry → Replied → Type 0
IsToldByTheRule last line = (caller : List ℕ) (asked : Query) (auction : List ℕ)
    → line.caller ≡ Some caller
    → Asks line.json (Ok (request.Query asked))
    → ReadsPublished asked auction
    → query_refusal line.history caller asked ≡ None
    → (reading : Reading) × (line.reply ≡ reading_text reading)
    × IsByTheRule last line.history caller asked auction reading

-- what is asked and sealed is replied to as the caller's own part of the history says, wherever the running moments
-- agree, unless the disk failed
abbrev pub IsSealedReply : Replied → Type 0
IsSealedReply line = (caller : List ℕ) (asked : Result Request Refusal) (other : Moment)
    → line.caller ≡ Some caller
    → Asks line.json asked
    → IsSealed line.history asked
    → line.reply ≢ unavailable
    → running line.history line.moment ≡ running (own_part caller line.history) other
    → IsSaid (own_part caller line.history) caller other asked line.reply

-- the line asks the entry's message, by a key that is its submitter's on the last history
pub record IsOfLine (operator : List ℕ) (last : List Entry) (e : Entry) (line : List ℕ) : Type 0 where
  pub moment : Moment
  pub key : Key
  pub json : List ℕ
  pub spells : SpellsAsk line moment key json
  pub known : caller_of (registrations last) operator key ≡ Some e.submitter
  pub asks : Asks json (Ok (request.Message e.number e.message))

-- the words of the headline, of lines
abbrev pub of_lines : List ℕ → Wording Replied
of_lines operator = record {
  on = λ line history. history ≡ line.history;
  answered = IsRepliedIn;
  acknowledged = IsAcknowledged;
  by_the_rule = IsToldByTheRule;
  sealed = IsSealedReply;
  added = λ last e line. IsOfLine operator last e line.line;
  doubted = λ last e line. IsOfLine operator last e line.line;
}

-- The line was acted on where the script stood, by a key that was this caller's there, and answered on the history there,
-- or on that with the group in doubt.
pub record IsRepliedAt (operator : List ℕ) (stood : Standing) (one : Replied) (next : Standing) : Type 0 where
  pub acted : IsActedOn operator stood one.line one.reply next
  pub caller : one.caller ≡ caller_of (registrations stood.history) operator acted.key
  pub moment : one.moment ≡ acted.moment
  pub json : one.json ≡ acted.json
  pub settled : (one.history ≡ stood.history) ⊎ (one.history ≡ stood.history ++ stood.doubt)

-- The headline of `run`, of these lines, which were replied to so, one after another. Each group that a crash may have
-- left behind a beginning of the history is what one of them would have added.
pub record RunHeadline (operator : List ℕ) (disk : DiskState) (first last : Standing) (more : List Entry)
    (lines : List (List ℕ)) (replies : List ℕ) : Type 0
  where
    pub asked : List Replied
    pub lines_are : lines ≡ map (λ (one : Replied). one.line) asked
    pub replies_are : replies ≡ flat_map (λ (one : Replied). one.reply) asked
    pub chain : Along (IsRepliedAt operator) first asked last
    pub headline : Headline (of_lines operator) disk first last more asked
    pub doubted : All (IsOfLines operator lines last.history) last.doubted

-- ---- a table

-- rows as they were sent in one turn: what was asked, the replies, and the history on which these stand
pub record SentTurn : Type 0 where
  pub asked : Asked
  pub history : List Entry
  pub replies : Replies

-- the row is the entry's message, and the verdict tells that it was accepted
pub record IsRowAccepted (e : Entry) (row : SentRow) (said : Verdict) : Type 0 where
  pub number : row.0 ≡ e.number
  pub message : row.1 ≡ e.message
  pub accepted : told said ≡ accepted_line e

-- the row is the entry's message, by a key that is its submitter's on the last history
pub record IsOfRow (sender : Sender) (last : List Entry) (e : Entry) (row : SentRow) : Type 0 where
  pub known : caller_of (registrations last) sender.operator sender.key ≡ Some e.submitter
  pub number : row.0 ≡ e.number
  pub message : row.1 ≡ e.message

-- one of the rows was acknowledged with this entry
abbrev pub HasAccepted : Entry → List SentRow → List Verdict → Type 0
HasAccepted e (row ∷ rows) (said ∷ others) = IsRowAccepted e row said ⊎ HasAccepted e rows others
HasAccepted e rows verdicts = ⊥

-- so it was by these replies of its submitter's rows
pub record IsRowAcknowledged (turn : SentTurn) (e : Entry) : Type 0 where
  pub submitter : turn.asked.submitter ≡ e.submitter
  pub said : List Verdict
  pub given : turn.replies ≡ Some said
  pub row : HasAccepted e turn.asked.messages said

-- The verdicts are those on one history, or the disk failed. The last history has the entry of an acknowledged row.
pub record AreRepliedIn (first last : List Entry) (turn : SentTurn) : Type 0 where
  pub between : IsBetween first last turn.history
  pub said : (turn.replies ≡ None) ⊎ (turn.replies ≡ Some (verdicts turn.history turn.asked))
  pub has : (e : Entry) → IsRowAcknowledged turn e → Contains last e

-- what the sender asks, on its own part of the history, at another moment
abbrev pub asked_at : Asked → Moment → Asked
asked_at asked moment = record { submitter = asked.submitter; moment = moment; messages = asked.messages }

-- the verdicts on bids are those on the sender's own part of the history, wherever the running moments agree, unless
-- the disk failed
abbrev pub AreSealedReplies : SentTurn → Type 0
AreSealedReplies turn = (other : Moment)
    → AreBids turn.asked.messages
    → turn.replies ≢ None
    → running turn.history turn.asked.moment ≡ running (own_part turn.asked.submitter turn.history) other
    → turn.replies ≡ Some (verdicts (own_part turn.asked.submitter turn.history) (asked_at turn.asked other))

-- a run of rows as it was sent: its rows, what they were answered, and the turn that they made, where the key was a
-- caller's
pub record SentRun : Type 0 where
  pub rows : List SentRow
  pub lines : List ℕ
  pub turn : Option SentTurn

-- the rows made a turn, of which this is so
abbrev pub Turned : SentRun → (SentTurn → Type 0) → Type 0
Turned run Holds = (turn : SentTurn) × (run.turn ≡ Some turn) × Holds turn

-- the words of the headline, of runs of rows: they ask nothing of what is published
abbrev pub of_runs : Sender → Wording SentRun
of_runs sender = record {
  on = λ run history. Turned run (λ turn. history ≡ turn.history);
  answered = λ first last run. IfSome run.turn (AreRepliedIn first last);
  acknowledged = λ run e. Turned run (λ turn. IsRowAcknowledged turn e);
  by_the_rule = λ last run. ⊤;
  sealed = λ run. IfSome run.turn AreSealedReplies;
  added = λ last e run. Any (IsOfRow sender last e) run.rows;
  doubted = λ last e run. Any (IsOfRow sender last e) run.rows;
}

-- where an import stands: the clock, and the desk
pub record Sending : Type 0 where
  pub clock : ClockState
  pub stands : Standing

-- the rows of this caller made the turn, at a reading of the clock, on the history there, or on that with the group in
-- doubt
pub record IsTurnAt (caller : List ℕ) (old new : Sending) (run : SentRun) (turn : SentTurn) : Type 0 where
  pub submitter : turn.asked.submitter ≡ caller
  pub read : ReadsClock old.clock new.clock turn.asked.moment.seconds
  pub messages : turn.asked.messages ≡ run.rows
  pub written : run.lines ≡ group_text run.rows turn.replies
  pub settled : (turn.history ≡ old.stands.history) ⊎ (turn.history ≡ old.stands.history ++ old.stands.doubt)

-- nobody's rows make none
abbrev pub TurnsAt : Option (List ℕ) → Sending → Sending → SentRun → Type 0
TurnsAt None old new run = run.turn ≡ None
TurnsAt (Some caller) old new run = Turned run (IsTurnAt caller old new run)

-- The rows were sent where the import stood, and refused where their key is nobody's.
pub record AreSentAt (sender : Sender) (old : Sending) (run : SentRun) (new : Sending) : Type 0 where
  pub sent : AreSent (caller_of (registrations old.stands.history) sender.operator sender.key) old.clock new.clock
      run.rows old.stands run.lines new.stands
  pub turned : TurnsAt (caller_of (registrations old.stands.history) sender.operator sender.key) old new run

-- The headline of `import`, of these runs of rows, which were answered so, one after another, while the clock was read.
-- Each group that a crash may have left behind a beginning of the history is what one of them would have added.
pub record ImportHeadline (sender : Sender) (disk : DiskState) (clock clock' : ClockState) (first last : Standing)
    (more : List Entry) (runs : List (List SentRow)) (text : List ℕ) : Type 0
  where
    pub asked : List SentRun
    pub runs_are : runs ≡ map (λ (one : SentRun). one.rows) asked
    pub text_is : text ≡ flat_map (λ (one : SentRun). one.lines) asked
    pub chain : Along (AreSentAt sender) (record { clock = clock; stands = first }) asked
        (record { clock = clock'; stands = last })
    pub headline : Headline (of_runs sender) disk first last more asked
    pub doubted : All (IsOfRuns sender runs last.history) last.doubted

-- ---- parcels

-- the words of the headline, of parcels, which are told nothing
abbrev pub of_parcels : Wording Parcel
of_parcels = record {
  on = λ parcel history. ⊥;
  answered = λ first last parcel. ⊤;
  acknowledged = λ parcel e. ⊥;
  by_the_rule = λ last parcel. ⊤;
  sealed = λ parcel. ⊤;
  added = λ last e parcel. parcel.entry ≡ e;
  doubted = λ last e parcel. parcel.entry ≡ e;
}

-- the parcel was taken where the copy stood, or ended the taking there
abbrev pub TakesParcel : Following → Parcel → Following → Type 0
TakesParcel old parcel new = (outcome : Outcome) × followed.Takes parcel old new outcome

-- The headline of `follow take`, of these parcels, and of a copy that was opened on the first history and kept nothing
-- ahead. Each group that a crash may have left behind a beginning of the history is the entry of one of them.
pub record FollowHeadline (disk : DiskState) (first last : Standing) (more : List Entry) (parcels : List Parcel)
    : Type 0
  where
    pub opened : Following
    pub begins : opened.history ≡ first.history
    pub fresh : IsFresh opened
    pub ended : Following
    pub ends : last.history ≡ ended.history
    pub chain : Along TakesParcel opened parcels ended
    pub headline : Headline of_parcels disk first last more parcels
    pub doubted : All (IsOfParcels parcels last.history) last.doubted
