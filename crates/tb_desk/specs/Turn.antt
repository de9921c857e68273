-- One turn of a desk: what it makes of a list of messages, the history and the group in doubt. A single message is a
-- list of one.
use Rattle.std.specs.Prelude.{◌≡◌, ◌⊎◌, ℕ, ◌≤◌, List, [], ◌∷◌, ◌++◌, length, map, Option, Some, None, IfSome, false, if◌then◌else◌}
use Rattle.std.specs.List.{All}
use Rattle.tb_units.specs.declared.moment.Moment.{Moment}
use Rattle.tb_disk.specs.Disks.{DiskState}
use Rattle.tb_message.specs.declared.message.Entry.{Entry}
use Rattle.tb_message.specs.declared.message.Message.{Message}
use Rattle.tb_message.specs.declared.verdict.Verdict.{Verdict}
use Rattle.tb_message.specs.declared.verdict.Verdict.TheVariants.{Accepted, Repeat, Refused}
use Rattle.tb_message.specs.Spelling.{IsNumbered}
use Rattle.tb_core.specs.House.{IsBid}
use Rattle.tb_history.specs.Legal.{IsLegal, running}
use Rattle.tb_history.specs.OwnPart.{own_part, depends_on_others}
use Rattle.tb_history.specs.Verdict.{verdict_on}
use Rattle.tb_desk.specs.Stands.{StandsForEither, is_open}

-- the entry that a verdict adds: one where the message is accepted
abbrev pub added_by : List ℕ → Moment → ℕ × Message → Verdict → List Entry
added_by submitter moment asked (Accepted number at) =
    record { submitter = submitter; number = asked.0; moment = moment; message = asked.1 } ∷ []
added_by submitter moment asked (Repeat number at) = []
added_by submitter moment asked (Refused refusal) = []

-- the entry that a message of a submitter adds to the history, at a moment
abbrev pub added : List Entry → List ℕ → Moment → ℕ × Message → List Entry
added history submitter moment asked =
    added_by submitter moment asked (verdict_on history submitter asked.0 moment asked.1)

-- the verdict on each message is that on the history and the entries that the messages before it added
abbrev pub verdicts_on : List Entry → List ℕ → Moment → List (ℕ × Message) → List Verdict
verdicts_on history submitter moment [] = []
verdicts_on history submitter moment (asked ∷ others) =
    verdict_on history submitter asked.0 moment asked.1
    ∷ verdicts_on (history ++ added history submitter moment asked) submitter moment others

-- the group: the entries that the messages add, in order
abbrev pub group_on : List Entry → List ℕ → Moment → List (ℕ × Message) → List Entry
group_on history submitter moment [] = []
group_on history submitter moment (asked ∷ others) =
    added history submitter moment asked
    ++ group_on (history ++ added history submitter moment asked) submitter moment others

-- the messages of entries
abbrev pub messages_of : List Entry → List Message
messages_of entries = map (λ (entry : Entry). entry.message) entries

-- the messages alone, without their numbers
abbrev pub asked_of : List (ℕ × Message) → List Message
asked_of messages = map (λ (asked : ℕ × Message). asked.1) messages

-- each message can be kept under its number
abbrev pub AreNumbered : List (ℕ × Message) → Type 0
AreNumbered messages = All (λ (asked : ℕ × Message). IsNumbered asked.0 asked.1) messages

-- each message is a bid
abbrev pub AreBids : List (ℕ × Message) → Type 0
AreBids messages = All (λ (asked : ℕ × Message). IsBid asked.1) messages

-- the history and the group in doubt, which is empty where nothing is
pub record Held : Type 0 where
  pub history : List Entry
  pub doubt : List Entry

-- what was in doubt is resolved: the history goes on with it where the gate byte read is 1
abbrev pub Resolves : ℕ → DiskState → Held → List Entry → Type 0
Resolves gate disk held at =
    ((at ≡ held.history) ⊎ (at ≡ held.history ++ held.doubt))
    × (1 ≤ length held.doubt → IfSome disk.past
    (λ past. at ≡ (if is_open gate past then held.history ++ held.doubt else held.history)))

-- what a submitter asks at a moment
pub record Asked : Type 0 where
  pub submitter : List ℕ
  pub moment : Moment
  pub messages : List (ℕ × Message)

-- the verdicts and the group, at the running moment
abbrev pub verdicts : List Entry → Asked → List Verdict
verdicts at asked = verdicts_on at asked.submitter (running at asked.moment) asked.messages

abbrev pub group : List Entry → Asked → List Entry
group at asked = group_on at asked.submitter (running at asked.moment) asked.messages

-- The replies are the verdicts, or none where the disk failed.
abbrev pub Replies : Type 0
Replies = Option (List Verdict)

-- resolving failed, and nothing changed
pub record IsStuck (old new : Held) (replies : Replies) : Type 0 where
  pub failed : replies ≡ None
  pub unsure : 1 ≤ length old.doubt
  pub same : new ≡ old

-- the verdicts were given, and what they add was added
pub record IsAnswered (at : List Entry) (asked : Asked) (new : Held) (replies : Replies) : Type 0 where
  pub given : replies ≡ Some (verdicts at asked)
  pub grown : new.history ≡ at ++ group at asked
  pub sure : new.doubt ≡ []

-- adding the group failed, and it is in doubt
pub record IsDoubted (at : List Entry) (asked : Asked) (new : Held) (replies : Replies) : Type 0 where
  pub failed : replies ≡ None
  pub some : 1 ≤ length (group at asked)
  pub same : new.history ≡ at
  pub unsure : new.doubt ≡ group at asked

-- A turn, with the history on which its verdicts stand. It is stuck; or what was in doubt is resolved, and then the
-- verdicts are given, or the group that they make is in doubt.
abbrev pub IsTurn : ℕ → DiskState → Asked → Held → Held → Replies → List Entry → Type 0
IsTurn gate disk asked old new replies at =
    (IsStuck old new replies × (at ≡ old.history))
    ⊎ (Resolves gate disk old at × (IsAnswered at asked new replies ⊎ IsDoubted at asked new replies))

-- none of the messages depends on others
abbrev pub DependOnNoOthers : List (ℕ × Message) → Type 0
DependOnNoOthers messages = All (λ (asked : ℕ × Message). depends_on_others asked.1 ≡ false) messages

-- A turn, told with the history on which its verdicts stand. They are sealed: where no message depends on what others
-- did, they are those on the sender's own part of that history.
pub record Turns (gate : ℕ) (disk : DiskState) (asked : Asked) (old new : Held) (replies : Replies) : Type 0 where
  pub at : List Entry
  pub legal : IsLegal at
  pub turn : IsTurn gate disk asked old new replies at
  pub sealed : DependOnNoOthers asked.messages → verdicts at asked
      ≡ verdicts_on (own_part asked.submitter at) asked.submitter (running at asked.moment) asked.messages

-- a crash during a turn leaves one of these
abbrev pub IsOneOf : Held → Held → List ℕ → Type 0
IsOneOf old new file = StandsForEither old.history old.doubt file ⊎ StandsForEither new.history new.doubt file
