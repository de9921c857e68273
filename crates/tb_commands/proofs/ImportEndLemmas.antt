-- How an import ends.
use Rattle.std.proofs.Common.{◌≡◌, ℕ, List, [], ◌∷◌, ◌++◌, take, Some, inl, inr, refl, subst}
use Rattle.std.specs.Prelude.{Result, Ok, Err}
use Rattle.tb_link.specs.Sources.{SourceState}
use Rattle.tb_link.specs.Sinks.{SinkState}
use Rattle.tb_gates.specs.Clocks.{ClockState}
use Rattle.tb_import.specs.Tables.{IsFirstBad, IsTable}
use Rattle.tb_commands.specs.DiskRun.{HasGrown}
use Rattle.tb_commands.specs.Completeness.{Answers, Completes, Opens}
use Rattle.tb_commands.specs.Endings.{ending_of, of_disk, of_text}
use Rattle.tb_message.specs.declared.key.Key.{Key}
use Rattle.tb_words.specs.declared.command.Command.TheVariants as command
use Rattle.tb_commands.specs.RunEnds.{Devices, EndsOnDisk}
use Rattle.tb_commands.specs.ImportRun.{ImportEnds, SentRow, TableEnds, longest_run}
use Rattle.tb_commands.specs.ImportSteps.{RowsEnd}
use Rattle.tb_commands.specs.TableInput.{AnswersInput, HasRows}
use Rattle.tb_commands.specs.Standings.{Standing}
use Rattle.tb_lines.specs.Told.{WhereTold}
use Rattle.tb_commands.specs.declared.command_endings.DiskEnding.{DiskEnding}
use Rattle.tb_commands.specs.declared.command_endings.DiskEnding.TheVariants as disk_ending
use Rattle.tb_commands.specs.declared.command_endings.TextEnding.{TextEnding}
use Rattle.tb_commands.specs.declared.command_endings.TextEnding.TheVariants as ending
use Rattle.tb_commands.specs.declared.sender.Sender.{Sender}
use Rattle.tb_commands.proofs.ExactLemmas.{Opens-desk, Opens-none}
use Rattle.tb_commands.proofs.GrownLemmas.{HasGrown-both}
use Rattle.tb_commands.proofs.ImportLemmas.{import-grown}
use Rattle.tb_import.proofs.OneTableLemmas.{never_both}

-- the rows that were read
pub rows-read : (input input' : SourceState) (result : Result (List SentRow) TextEnding) (rows : List SentRow)
    → result ≡ Ok rows
    → AnswersInput input input' result
    → HasRows input input' rows
rows-read input input' result rows is answers = subst (AnswersInput input input') is answers

module _ (sender : Sender) (clock clock' : ClockState) (input input' : SourceState) (out out' : SinkState)
    (first last : Standing) where
  -- once the rows were read, as the sending of them ends
  pub TableEnds-rows : (ended : TextEnding) (rows : List SentRow)
      → HasRows input input' rows
      → RowsEnd sender clock clock' rows ended out out' first last
      → TableEnds sender clock clock' ended input input' out out' first last
  TableEnds-rows ending.Done rows has ends = (
    record {
      text = ends.0;
      sent = record { rows = rows; table = has.table; sent = ends.1 };
      taken = ends.2.taken;
    },
    ends.2.no_fault,
  )
  TableEnds-rows (ending.BadInput number) rows has ends = absurd ends
  TableEnds-rows ending.ReadFault rows has ends = absurd ends
  TableEnds-rows ending.WriteFault rows has ends =
      (ends.0, record { rows = rows; table = has.table; sent = ends.1 })
  TableEnds-rows ending.OutOfMemory rows has ends = (
    inr (record {
      rest = ends.0;
      text = ends.1.0;
      sent = record { rows = rows; table = has.table; sent = ends.1.1 };
      taken = ends.1.2.taken;
    }),
    has.table.no_fault,
    ends.1.2.no_fault,
  )

-- without rows nothing was sent
pub TableEnds-none : (sender : Sender) (clock : ClockState) (input input' : SourceState) (out : SinkState)
    (stands : Standing) (ended : TextEnding)
    → AnswersInput input input' (Err ended)
    → TableEnds sender clock clock ended input input' out out stands stands
TableEnds-none sender clock input input' out stands ending.Done none = absurd none
TableEnds-none sender clock input input' out stands (ending.BadInput number) none = ((refl, refl, refl), none)
TableEnds-none sender clock input input' out stands ending.ReadFault none = ((refl, refl, refl), none)
TableEnds-none sender clock input input' out stands ending.WriteFault none = absurd none
TableEnds-none sender clock input input' out stands ending.OutOfMemory none = (inl (refl, refl, refl), none, refl)

-- bytes that are a table aren't told of as bad
table-good : (bytes : List ℕ) (rows : List SentRow) (number : ℕ) → IsTable bytes rows → ¬ (IsFirstBad bytes number)
table-good bytes rows number table bad = never_both bytes rows number table bad

-- a table is answered on a desk, and an input that is none is refused
table-answers : (sender : Sender) (clock clock' : ClockState) (own : TextEnding) (input input' : SourceState)
    (out out' : SinkState) (first last : Standing) (bytes : List ℕ)
    → TableEnds sender clock clock' own input input' out out' first last
    → input.left ≡ Some bytes
    → Answers (of_text own) ((rows : List SentRow) × IsTable bytes rows) ((number : ℕ) × IsFirstBad bytes number)
table-answers sender clock clock' ending.Done input input' out out' first last bytes ends told =
    let sent = ends.0.sent in
    record {
      answered = λ table. inr (inl refl);
      refused = λ bad. absurd (table-good bytes sent.rows bad.0 (sent.table.told bytes told).0 bad.1);
    }
table-answers sender clock clock' (ending.BadInput number) input input' out out' first last bytes ends told = record {
  answered = λ table. absurd (table-good bytes table.0 number table.1 (ends.1.told bytes told));
  refused = λ bad. inr (number, refl);
}
table-answers sender clock clock' ending.ReadFault input input' out out' first last bytes ends told =
    record { answered = λ table. inl (inl refl); refused = λ bad. inl (inl refl) }
table-answers sender clock clock' ending.WriteFault input input' out out' first last bytes ends told = record {
  answered = λ table. inr (inr (inl refl));
  refused = λ bad. absurd (table-good bytes ends.1.rows bad.0 (ends.1.table.told bytes told).0 bad.1);
}
table-answers sender clock clock' ending.OutOfMemory input input' out out' first last bytes ends told =
    record { answered = λ table. inl (inr refl); refused = λ bad. inl (inr refl) }

-- so it is however the command ends
import-opens : (sender : Sender) (clock clock' : ClockState) (own : DiskEnding TextEnding) (input input' : SourceState)
    (old new : Devices)
    → EndsOnDisk (λ own. TableEnds sender clock clock' own input input' old.out new.out) own input input' old new
    → Opens old.disk (of_disk of_text own) (WhereTold input.left (λ text. Answers (of_disk of_text own)
    ((rows : List SentRow) × IsTable text rows) ((number : ℕ) × IsFirstBad text number)))
import-opens sender clock clock' (disk_ending.Opened own) input input' old new ends =
    Opens-desk old.disk ends.0 (of_text own)
    (WhereTold input.left (λ text. Answers (of_text own) ((rows : List SentRow) × IsTable text rows)
    ((number : ℕ) × IsFirstBad text number)))
    ends.2.opened
    (λ text told. table-answers sender clock clock' own input input' old.out new.out ends.0 ends.1 text ends.3 told)
import-opens sender clock clock' (disk_ending.Unopened why) input input' old new none =
    Opens-none why old.disk new.disk
    (WhereTold input.left (λ text. Answers (ending_of why) ((rows : List SentRow) × IsTable text rows)
    ((number : ℕ) × IsFirstBad text number)))
    none.unopened

-- so is `import`
pub import-completes : (operator : List ℕ) (caller : Key) (clock clock' : ClockState) (own : DiskEnding TextEnding)
    (input input' : SourceState) (old new : Devices)
    → ImportEnds (record { operator = operator; key = caller }) clock clock' own input input' old new
    → Completes (command.Import operator caller) input old.disk (of_disk of_text own)
import-completes operator caller clock clock' own input input' old new imported =
    import-opens (record { operator = operator; key = caller }) clock clock' own input input' old new imported.ends

-- rows keep the history
pub rows-grown : (sender : Sender) (clock clock' : ClockState) (rows : List SentRow) (ended : TextEnding)
    (out out' : SinkState) (first last : Standing)
    → RowsEnd sender clock clock' rows ended out out' first last
    → HasGrown first last
rows-grown sender clock clock' rows ending.Done out out' first last ends =
    import-grown sender clock clock' ends.1.runs first last ends.0 ends.1.sent
rows-grown sender clock clock' rows (ending.BadInput number) out out' first last ends = absurd ends
rows-grown sender clock clock' rows ending.ReadFault out out' first last ends = absurd ends
rows-grown sender clock clock' rows ending.WriteFault out out' first last ends =
    let sent = ends.1 in
    HasGrown-both first sent.before last
    (import-grown sender clock sent.read sent.runs.runs first sent.before sent.text sent.runs.sent)
    (import-grown sender sent.read clock' (take longest_run sent.rest ∷ []) sent.before last (sent.part ++ sent.lost)
    sent.last_run)
rows-grown sender clock clock' rows ending.OutOfMemory out out' first last ends =
    import-grown sender clock clock' ends.1.1.runs first last ends.1.0 ends.1.1.sent

-- where all were sent no fault was passed over
pub rows-no_fault : (sender : Sender) (clock clock' : ClockState) (rows : List SentRow) (ended : TextEnding)
    (out out' : SinkState) (first last : Standing)
    → RowsEnd sender clock clock' rows ended out out' first last
    → ended ≡ ending.Done
    → out'.faults ≡ out.faults
rows-no_fault sender clock clock' rows ended out out' first last ends is =
    (subst (λ (e : TextEnding). RowsEnd sender clock clock' rows e out out' first last) is ends).2.no_fault
