-- How a report ends.
use Rattle.std.proofs.Common.{◌≡◌, ℕ, List, Bool, Option, Some, None, inl, inr, refl}
use Rattle.tb_link.specs.Sources.{SourceState}
use Rattle.tb_link.specs.Sinks.{SinkState}
use Rattle.tb_terms.specs.declared.refusal.Refusal.{Refusal}
use Rattle.tb_message.specs.declared.message.Entry.{Entry}
use Rattle.tb_history.specs.Readings.{IsReading}
use Rattle.tb_history.specs.declared.reading.Reading.{Reading}
use Rattle.tb_commands.specs.ReportRun.{IsShown, ReadsDesk, ReportEnds, inquiry, printed}
use Rattle.tb_commands.specs.RunEnds.{Devices}
use Rattle.tb_commands.specs.Standings.{Standing}
use Rattle.tb_message.specs.declared.key.Key.{Key}
use Rattle.tb_message.specs.declared.query.Query.{Query}
use Rattle.tb_words.specs.declared.command.Command.TheVariants as command
use Rattle.tb_commands.specs.Completeness.{Completes, IsAnswered}
use Rattle.tb_commands.specs.Endings.{ending_of, of_disk, of_print}
use Rattle.tb_commands.specs.declared.command_endings.DiskEnding.{DiskEnding}
use Rattle.tb_commands.specs.declared.command_endings.DiskEnding.TheVariants as disk_ending
use Rattle.tb_commands.specs.declared.command_endings.PrintEnding.{PrintEnding}
use Rattle.tb_commands.specs.declared.command_endings.PrintEnding.TheVariants as ending
use Rattle.tb_commands.specs.declared.report_command.Inquiry.{Inquiry}
use Rattle.tb_commands.proofs.ExactLemmas.{Opens-desk, Opens-none}

-- on a desk a report is answered
reads-answered : (asked : Inquiry) (own : PrintEnding) (out out' : SinkState) (first last : Standing)
    → ReadsDesk asked own out out' first last
    → IsAnswered (of_print own)
reads-answered asked ending.Done out out' first last ends = inl refl
reads-answered asked ending.WriteFault out out' first last ends = inr (inl refl)
reads-answered asked ending.OutOfMemory out out' first last ends = inr (inr refl)

-- so is `report`
pub report-completes : (operator : List ℕ) (caller : Key) (query : Query) (csv : Bool) (own : DiskEnding PrintEnding)
    (input input' : SourceState) (old new : Devices)
    → ReportEnds (inquiry operator caller query csv) own input input' old new
    → Completes (command.Report operator caller query csv) input old.disk (of_disk of_print own)
report-completes operator caller query csv (disk_ending.Opened own) input input' old new report =
    let ends = report.ends in
    Opens-desk old.disk ends.0 (of_print own) (IsAnswered (of_print own)) ends.2.opened
    (reads-answered (inquiry operator caller query csv) own old.out new.out ends.0 ends.1 ends.3)
report-completes operator caller query csv (disk_ending.Unopened why) input input' old new report =
    Opens-none why old.disk new.disk (IsAnswered (ending_of why)) report.ends.unopened

-- a query that isn't refused is shown its reading as it is printed
pub shown-reading : (history : List Entry) (caller : List ℕ) (asked : Inquiry) (why : Option Refusal) (told : Reading)
    (text : List ℕ)
    → ((r : Refusal) → ¬ (why ≡ Some r))
    → IsReading history caller asked.query told
    → text ≡ printed asked.csv told
    → IsShown history (Some caller) asked why text
shown-reading history caller asked None told text none is text_is = (told, is, text_is)
shown-reading history caller asked (Some other) told text none is text_is = absurd (none other refl)
