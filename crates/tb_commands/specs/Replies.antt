-- What a line of a script is answered.
use Rattle.std.specs.Prelude.{
  ◌≡◌,
  ℕ,
  List,
  [],
  ◌∷◌,
  ◌++◌,
  length,
  codes,
  Option,
  Some,
  None,
  Result,
  Ok,
  Err,
  true,
  false,
}
use Rattle.std.specs.Fmt.{decimal}
use Rattle.tb_units.specs.Bytes.{line_feed}
use Rattle.tb_units.specs.declared.moment.Moment.{Moment}
use Rattle.tb_terms.specs.declared.refusal.Refusal.{Refusal}
use Rattle.tb_terms.specs.declared.refusal.Refusal.TheVariants as refusal
use Rattle.tb_message.specs.declared.message.Entry.{Entry}
use Rattle.tb_message.specs.declared.message.Message.{Message}
use Rattle.tb_message.specs.declared.query.Query.{Query}
use Rattle.tb_message.specs.declared.query.ReadFault.{ReadFault}
use Rattle.tb_message.specs.declared.query.ReadFault.TheVariants as fault
use Rattle.tb_message.specs.declared.query.Request.{Request}
use Rattle.tb_message.specs.declared.query.Request.TheVariants as request
use Rattle.tb_message.specs.declared.verdict.Verdict.TheVariants as verdict
use Rattle.tb_message.specs.Requests.{AnswerOf, FaultOf}
use Rattle.tb_history.specs.Answer.{asks_on, query_refusal}
use Rattle.tb_history.specs.Legal.{running}
use Rattle.tb_history.specs.OwnPart.{depends_on_others}
use Rattle.tb_history.specs.Readings.{IsReading}
use Rattle.tb_history.specs.Roster.{is_published}
use Rattle.tb_history.specs.Verdict.{verdict_on}
use Rattle.tb_history.specs.declared.reading.Reading.{Reading}
use Rattle.tb_desk.specs.Desks.{replies_of}
use Rattle.tb_desk.specs.Turn.{Asked}
use Rattle.tb_desk.specs.declared.reply.Reply.{Reply}
use Rattle.tb_report.specs.Lines.{text_of}
use Rattle.tb_report.specs.Readings.{lines_of}
use Rattle.tb_commands.specs.Standings.{Standing}
use Rattle.tb_commands.specs.Turns.{MakesTurn, told, turn_text}

-- the line that tells a refusal
abbrev pub refused : Refusal → List ℕ
refused why = told (verdict.Refused why)

-- a reading: how many lines it has, and its lines
abbrev pub reading_text : Reading → List ℕ
reading_text reading =
    codes "lines " ++ decimal (length (lines_of reading)) ++ line_feed ∷ text_of (lines_of reading)

-- why a text is no request; want of memory is no reason
abbrev pub refusal_of : ReadFault → Option Refusal
refusal_of fault.BadJson = Some refusal.BadJson
refusal_of (fault.BadShape member) = Some (refusal.BadShape member)
refusal_of fault.OutOfMemory = None

-- what a text asks: a request, or the refusal that tells why it is none
abbrev pub Asks : List ℕ → Result Request Refusal → Type 0
Asks json (Ok asked) = AnswerOf json (Ok asked)
Asks json (Err why) = (at_fault : ReadFault) × FaultOf json at_fault × (refusal_of at_fault ≡ Some why)

-- a query is told its refusal, or else its reading
abbrev pub IsTold : List Entry → List ℕ → Query → Option Refusal → List ℕ → Type 0
IsTold history caller query (Some why) reply = reply ≡ refused why
IsTold history caller query None reply =
    (reading : Reading) × IsReading history caller query reading × (reply ≡ reading_text reading)

-- what a history says to what a caller asks at a moment: to a message its verdict at the running moment, to a query
-- its refusal or its reading, and to a text that is no request its refusal
abbrev pub IsSaid : List Entry → List ℕ → Moment → Result Request Refusal → List ℕ → Type 0
IsSaid history caller moment (Ok (request.Message number message)) reply =
    reply ≡ told (verdict_on history caller number (running history moment) message)
IsSaid history caller moment (Ok (request.Query query)) reply =
    IsTold history caller query (query_refusal history caller query) reply
IsSaid history caller moment (Err why) reply = reply ≡ refused why

-- what a caller asks by a message
abbrev pub asked_by : List ℕ → Moment → ℕ → Message → Asked
asked_by caller moment number message =
    record { submitter = caller; moment = moment; messages = (number, message) ∷ [] }

-- The reply to what a caller asks at a moment, and where the script stands then: a message makes a turn, and all else
-- is what the history says, which changes nothing.
abbrev pub IsReply : Standing → List ℕ → Moment → Result Request Refusal → List ℕ → Standing → Type 0
IsReply old caller moment (Ok (request.Message number message)) reply new =
    (answer : Reply)
    × MakesTurn (asked_by caller moment number message) old new (replies_of answer)
    × (reply ≡ turn_text answer)
IsReply old caller moment (Ok (request.Query query)) reply new =
    IsSaid old.history caller moment (Ok (request.Query query)) reply × (new ≡ old)
IsReply old caller moment (Err why) reply new = IsSaid old.history caller moment (Err why) reply × (new ≡ old)

-- the same of a text, where the caller is known: to nobody the key is refused, whatever the text says
abbrev pub IsAnswered : Standing → Option (List ℕ) → Moment → List ℕ → List ℕ → Standing → Type 0
IsAnswered old None moment json reply new = (reply ≡ refused refusal.UnknownKey) × (new ≡ old)
IsAnswered old (Some caller) moment json reply new =
    (asked : Result Request Refusal) × Asks json asked × IsReply old caller moment asked reply new

-- the reply shows nothing of others: to a message that doesn't depend on others, to a query on an auction that isn't
-- published, and to a text that is no request
abbrev pub IsSealed : List Entry → Result Request Refusal → Type 0
IsSealed history (Ok (request.Message number message)) = depends_on_others message ≡ false
IsSealed history (Ok (request.Query query)) =
    (auction : List ℕ) × (asks_on auction query ≡ true) × (is_published history auction ≡ false)
IsSealed history (Err why) = Unit {0}
