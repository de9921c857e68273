-- How an import goes on from run to run.
use Rattle.std.specs.Prelude.{◌≡◌, ℕ, List, [], ◌∷◌, length, Option, Some, None, ⊤}
use Rattle.tb_link.specs.Counts.{Rose}
use Rattle.tb_link.specs.Sinks.{FailsToTake, SinkState, Takes}
use Rattle.tb_gates.specs.Clocks.{ClockState}
use Rattle.tb_desk.specs.Turn.{Replies}
use Rattle.tb_commands.specs.ImportRun.{HasSentRuns, IsImport, NoneSent, SentInVain, SentRow}
use Rattle.tb_commands.specs.Standings.{Standing}
use Rattle.tb_commands.specs.declared.sender.Sender.{Sender}
use Rattle.tb_commands.specs.declared.command_endings.TextEnding.{TextEnding}
use Rattle.tb_commands.specs.declared.command_endings.TextEnding.TheVariants as ending

-- a run has as many verdicts as rows
abbrev pub AreAsMany : List SentRow → Replies → Type 0
AreAsMany rows (Some verdicts) = length verdicts ≡ length rows
AreAsMany rows None = ⊤

-- the first runs were sent, and the output did so with their text
abbrev pub SendsRuns : Sender → ClockState → ClockState → List SentRow → Standing → Standing → List SentRow
    → (List ℕ → Type 0)
    → Type 0
SendsRuns sender clock clock' rows first last rest Holds =
    (text : List ℕ) × HasSentRuns sender clock clock' rows first last text rest × Holds text

-- a run was sent, and the import goes on, or ends so
abbrev pub GroupEnds : Sender → ClockState → ClockState → List SentRow → Option TextEnding → SinkState → SinkState
    → Standing → Standing
    → Type 0
GroupEnds sender clock clock' run None out out' old new =
    (text : List ℕ) × IsImport sender clock clock' old (run ∷ []) text new × Takes out out' text
GroupEnds sender clock clock' run (Some ending.WriteFault) out out' old new =
    (text : List ℕ) × IsImport sender clock clock' old (run ∷ []) text new × FailsToTake out out' text
GroupEnds sender clock clock' run (Some ending.OutOfMemory) out out' old new = NoneSent clock clock' out out' old new
GroupEnds sender clock clock' run (Some ended) out out' old new = ⊥

-- how the sending of rows ends
abbrev pub RowsEnd : Sender → ClockState → ClockState → List SentRow → TextEnding → SinkState → SinkState
    → Standing → Standing
    → Type 0
RowsEnd sender clock clock' rows ending.Done out out' first last =
    SendsRuns sender clock clock' rows first last [] (Takes out out')
RowsEnd sender clock clock' rows ending.WriteFault out out' first last =
    Rose out.faults out'.faults × SentInVain sender clock clock' rows out out' first last
RowsEnd sender clock clock' rows ending.OutOfMemory out out' first last =
    (rest : List SentRow) × SendsRuns sender clock clock' rows first last rest (Takes out out')
RowsEnd sender clock clock' rows ended out out' first last = ⊥
