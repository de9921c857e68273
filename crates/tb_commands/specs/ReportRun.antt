-- What the command `report` prints, and what it does to its output and its disk.
use Rattle.std.specs.Prelude.{◌≡◌, ℕ, List, Bool, true, Option, Some, None}
use Rattle.tb_link.specs.Counts.{Rose}
use Rattle.tb_link.specs.Sources.{SourceState}
use Rattle.tb_link.specs.Sinks.{SinkState, Takes, TakesPrefix}
use Rattle.tb_journal.specs.Journal.{Told}
use Rattle.tb_journal.specs.Opening.{BreaksOff, IsHarmless}
use Rattle.tb_terms.specs.declared.refusal.Refusal.{Refusal}
use Rattle.tb_message.specs.declared.message.Entry.{Entry}
use Rattle.tb_message.specs.declared.key.Key.{Key}
use Rattle.tb_message.specs.declared.query.Query.{Query}
use Rattle.tb_history.specs.Answer.{caller_of, refusal_for}
use Rattle.tb_history.specs.Readings.{IsReading}
use Rattle.tb_history.specs.Roster.{registrations}
use Rattle.tb_history.specs.declared.reading.Reading.{Reading}
use Rattle.tb_history.specs.declared.reading.Reading.TheVariants as reading
use Rattle.tb_import.specs.Exports.{awards_table, holdings_table, table_text}
use Rattle.tb_report.specs.Lines.{text_of}
use Rattle.tb_report.specs.Readings.{lines_of}
use Rattle.tb_commands.specs.Replies.{refused}
use Rattle.tb_commands.specs.RunEnds.{Devices, EndsOnDisk}
use Rattle.tb_commands.specs.Standings.{Standing}
use Rattle.tb_commands.specs.declared.report_command.Inquiry.{Inquiry}
use Rattle.tb_commands.specs.declared.command_endings.DiskEnding.{DiskEnding}
use Rattle.tb_commands.specs.declared.command_endings.PrintEnding.{PrintEnding}
use Rattle.tb_commands.specs.declared.command_endings.PrintEnding.TheVariants as ending

-- what is asked, by its parts
abbrev pub inquiry : List ℕ → Key → Query → Bool → Inquiry
inquiry operator key query csv =
    record { sender = record { operator = operator; key = key }; query = query; csv = csv }

-- a reading as it is printed: as its table, where one is asked for and awards or holdings have one, and else as its
-- lines
abbrev pub printed : Bool → Reading → List ℕ
printed true (reading.Awards lines) = table_text (awards_table lines)
printed true (reading.Holdings lines) = table_text (holdings_table lines)
printed csv told = text_of (lines_of told)

-- what a history tells a caller, or nobody, of what is asked: its refusal in a line, where there is one, and else the
-- reading as it is printed
abbrev pub IsShown : List Entry → Option (List ℕ) → Inquiry → Option Refusal → List ℕ → Type 0
IsShown history caller asked (Some why) text = text ≡ refused why
IsShown history None asked None text = ⊥
IsShown history (Some caller) asked None text =
    (told : Reading) × IsReading history caller asked.query told × (text ≡ printed asked.csv told)

-- the answer to a query in the name of a key, where the operator's is `op:` and the name of the operator
abbrev pub IsAnswerTo : List Entry → Option (List ℕ) → Inquiry → List ℕ → Type 0
IsAnswerTo history caller asked text = IsShown history caller asked (refusal_for history caller asked.query) text

abbrev pub IsReport : List Entry → Inquiry → List ℕ → Type 0
IsReport history asked text =
    IsAnswerTo history (caller_of (registrations history) asked.sender.operator asked.sender.key) asked text

-- the output has taken the answer, or a part of it
abbrev pub Reported : Inquiry → List Entry → SinkState → SinkState → Type 0
Reported asked history out out' = (text : List ℕ) × IsReport history asked text × Takes out out' text

abbrev pub ReportedInPart : Inquiry → List Entry → SinkState → SinkState → Type 0
ReportedInPart asked history out out' =
    (text : List ℕ) × IsReport history asked text × TakesPrefix out out' text × Rose out.faults out'.faults

-- how a report ends that reads this history
abbrev pub Reads : Inquiry → PrintEnding → List Entry → SinkState → SinkState → Type 0
Reads asked ending.Done history out out' = Reported asked history out out'
Reads asked ending.WriteFault history out out' = ReportedInPart asked history out out'
Reads asked ending.OutOfMemory history out out' = out' ≡ out

-- on a desk a report leaves all as it stands: it is answered by the history that the file stood for
abbrev pub ReadsDesk : Inquiry → PrintEnding → SinkState → SinkState → Standing → Standing → Type 0
ReadsDesk asked ended out out' first last = (last ≡ first) × Reads asked ended first.history out out'

-- How the command ends. It reads no input, and does no more to its disk than an opening does: what each crash leaves
-- stands for what the file stood for, or could be left before.
pub record ReportEnds (asked : Inquiry) (ended : DiskEnding PrintEnding) (input input' : SourceState)
    (old new : Devices) : Type 0
  where
    pub ends : EndsOnDisk (λ own. ReadsDesk asked own old.out new.out) ended input input' old new
    pub unread : input' ≡ input
    pub steps : Told old.disk new.disk BreaksOff
    pub harmless : Told old.disk new.disk IsHarmless
