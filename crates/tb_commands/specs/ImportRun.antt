-- What the command `import` sends and prints, and what it does to its input, its output and its disk.
use Rattle.std.specs.Prelude.{◌≡◌, ◌⊎◌, ℕ, ◌≤◌, List, [], ◌∷◌, ◌++◌, length, take, drop, Option, Some, None}
use Rattle.std.specs.Fmt.{decimal}
use Rattle.std.specs.List.{flat_map}
use Rattle.tb_units.specs.Bytes.{blank}
use Rattle.tb_units.specs.declared.moment.Moment.{Moment}
use Rattle.tb_link.specs.Counts.{Rose}
use Rattle.tb_link.specs.Sources.{SourceState}
use Rattle.tb_link.specs.Sinks.{SinkState, after_taken}
use Rattle.tb_gates.specs.Clocks.{ClockState, ReadsClock}
use Rattle.tb_terms.specs.declared.refusal.Refusal.TheVariants as refusal
use Rattle.tb_message.specs.declared.message.Message.{Message}
use Rattle.tb_message.specs.declared.verdict.Verdict.{Verdict}
use Rattle.tb_history.specs.Answer.{caller_of}
use Rattle.tb_history.specs.Roster.{registrations}
use Rattle.tb_desk.specs.Turn.{Replies}
use Rattle.tb_import.specs.Tables.{IsFirstBad, IsTable}
use Rattle.tb_commands.specs.Replies.{refused}
use Rattle.tb_lines.specs.Reads.{ReadsToEnd, ReadsWithoutFault}
use Rattle.tb_commands.specs.RunEnds.{Devices, EndsOnDisk}
use Rattle.tb_commands.specs.Standings.{Standing}
use Rattle.tb_lines.specs.Told.{WhereTold}
use Rattle.tb_commands.specs.Turns.{MakesTurn, told, unavailable}
use Rattle.tb_commands.specs.declared.sender.Sender.{Sender}
use Rattle.tb_commands.specs.declared.command_endings.DiskEnding.{DiskEnding}
use Rattle.tb_commands.specs.declared.command_endings.TextEnding.{TextEnding}
use Rattle.tb_commands.specs.declared.command_endings.TextEnding.TheVariants as ending

-- a row of a table of bids: the number that its sender gave it, and the bid
abbrev pub SentRow : Type 0
SentRow = ℕ × Message

-- the line of a row: its number, a space, and what it is answered
abbrev pub row_line : SentRow → List ℕ → List ℕ
row_line row answer = decimal row.0 ++ blank ∷ answer

-- rows that are all answered the same
abbrev pub same_lines : List ℕ → List SentRow → List ℕ
same_lines answer rows = flat_map (λ (row : SentRow). row_line row answer) rows

-- rows that are answered by a verdict each
abbrev pub verdict_lines : List SentRow → List Verdict → List ℕ
verdict_lines [] verdicts = []
verdict_lines (row ∷ rows) [] = []
verdict_lines (row ∷ rows) (said ∷ others) = row_line row (told said) ++ verdict_lines rows others

-- what rows are answered that made one turn
abbrev pub group_text : List SentRow → Replies → List ℕ
group_text rows (Some verdicts) = verdict_lines rows verdicts
group_text rows None = same_lines unavailable rows

-- Rows are sent together, and answered so: nobody's key is refused for each of them, and a caller's rows make one turn,
-- at the one reading of the clock that is taken for it.
abbrev pub AreSent : Option (List ℕ) → ClockState → ClockState → List SentRow → Standing → List ℕ → Standing → Type 0
AreSent None clock clock' rows old text new =
    (text ≡ same_lines (refused refusal.UnknownKey) rows) × (new ≡ old) × (clock' ≡ clock)
AreSent (Some caller) clock clock' rows old text new =
    (moment : Moment) × ReadsClock clock clock' moment.seconds
    × (replies : Replies)
    × MakesTurn (record { submitter = caller; moment = moment; messages = rows }) old new replies
    × (text ≡ group_text rows replies)

-- Runs of rows are sent one after another in the name of a key, each where those before it left the clock and the
-- history: the text of what they are answered, and where clock and history stand in the end.
abbrev pub IsImport : Sender → ClockState → ClockState → Standing → List (List SentRow) → List ℕ → Standing → Type 0
IsImport sender clock clock' old [] text last = (text ≡ []) × (last ≡ old) × (clock' ≡ clock)
IsImport sender clock clock' old (run ∷ runs) text last =
    (read : ClockState) × (lines : List ℕ) × (next : Standing) × (later : List ℕ)
    × AreSent (caller_of (registrations old.history) sender.operator sender.key) clock read run old lines next
    × IsImport sender read clock' next runs later last
    × (text ≡ lines ++ later)

-- rows of one turn, at most
abbrev pub longest_run : ℕ
longest_run = 64

-- the rows begin with these runs, of 64 rows each or of all that are left, and these rows follow
abbrev pub BeginWithRuns : List (List SentRow) → List SentRow → List SentRow → Type 0
BeginWithRuns [] rows rest = rest ≡ rows
BeginWithRuns (run ∷ runs) rows rest =
    (1 ≤ length rows) × (run ≡ take longest_run rows) × BeginWithRuns runs (drop longest_run rows) rest

-- of the rows the first runs were sent, and this text is what they are answered; these rows follow
pub record HasSentRuns (sender : Sender) (clock clock' : ClockState) (rows : List SentRow) (first last : Standing)
    (text : List ℕ) (rest : List SentRow) : Type 0
  where
    pub runs : List (List SentRow)
    pub begin : BeginWithRuns runs rows rest
    pub sent : IsImport sender clock clock' first runs text last

-- the whole input was read, and is a table; of its rows the first runs were sent
pub record HasSent (sender : Sender) (clock clock' : ClockState) (input input' : SourceState) (first last : Standing)
    (text : List ℕ) (rest : List SentRow) : Type 0
  where
    pub rows : List SentRow
    pub table : ReadsWithoutFault input input' (λ bytes. IsTable bytes rows × (input'.left ≡ Some []))
    pub sent : HasSentRuns sender clock clock' rows first last text rest

-- all rows of the table were sent, and the output has taken the text
pub record Imported (sender : Sender) (clock clock' : ClockState) (input input' : SourceState) (out out' : SinkState)
    (first last : Standing) : Type 0
  where
    pub text : List ℕ
    pub sent : HasSent sender clock clock' input input' first last text []
    pub taken : out'.taken ≡ after_taken out.taken text

-- the first rows were sent, and the output has taken their text
pub record ImportedInPart (sender : Sender) (clock clock' : ClockState) (input input' : SourceState)
    (out out' : SinkState) (first last : Standing) : Type 0
  where
    pub rest : List SentRow
    pub text : List ℕ
    pub sent : HasSent sender clock clock' input input' first last text rest
    pub taken : out'.taken ≡ after_taken out.taken text

-- Of the rows the first runs were sent, and then the run behind them. The output has taken what they are answered, of
-- the last run's text a part.
pub record SentInVain (sender : Sender) (clock clock' : ClockState) (rows : List SentRow) (out out' : SinkState)
    (first last : Standing) : Type 0
  where
    pub rest : List SentRow
    pub text : List ℕ
    pub read : ClockState
    pub before : Standing
    pub runs : HasSentRuns sender clock read rows first before text rest
    pub some : 1 ≤ length rest
    pub part : List ℕ
    pub lost : List ℕ
    pub last_run : IsImport sender read clock' before (take longest_run rest ∷ []) (part ++ lost) last
    pub taken : out'.taken ≡ after_taken out.taken (text ++ part)

-- the first rows were sent, and the output has taken their text, of the last run's a part
pub record ImportBrokenOff (sender : Sender) (clock clock' : ClockState) (input input' : SourceState)
    (out out' : SinkState) (first last : Standing) : Type 0
  where
    pub rows : List SentRow
    pub table : ReadsWithoutFault input input' (λ bytes. IsTable bytes rows × (input'.left ≡ Some []))
    pub sent : SentInVain sender clock clock' rows out out' first last

-- no row was sent, nothing written, and the clock not read
abbrev pub NoneSent : ClockState → ClockState → SinkState → SinkState → Standing → Standing → Type 0
NoneSent clock clock' out out' first last = (last ≡ first) × (out' ≡ out) × (clock' ≡ clock)

-- how an import ends on a desk
abbrev pub TableEnds : Sender → ClockState → ClockState → TextEnding → SourceState → SourceState → SinkState → SinkState
    → Standing → Standing
    → Type 0
TableEnds sender clock clock' ending.Done input input' out out' first last =
    Imported sender clock clock' input input' out out' first last × (out'.faults ≡ out.faults)
TableEnds sender clock clock' (ending.BadInput number) input input' out out' first last =
    NoneSent clock clock' out out' first last × ReadsWithoutFault input input' (λ bytes. IsFirstBad bytes number)
TableEnds sender clock clock' ending.ReadFault input input' out out' first last =
    NoneSent clock clock' out out' first last × Rose input.faults input'.faults
TableEnds sender clock clock' ending.WriteFault input input' out out' first last =
    Rose out.faults out'.faults × ImportBrokenOff sender clock clock' input input' out out' first last
TableEnds sender clock clock' ending.OutOfMemory input input' out out' first last =
    (NoneSent clock clock' out out' first last ⊎ ImportedInPart sender clock clock' input input' out out' first last)
    × (input'.faults ≡ input.faults)
    × (out'.faults ≡ out.faults)

-- how the command ends; however it does, each read gave at least one byte, but for one that found the end of the input
pub record ImportEnds (sender : Sender) (clock clock' : ClockState) (ended : DiskEnding TextEnding)
    (input input' : SourceState)
    (old new : Devices) : Type 0
  where
    pub ends : EndsOnDisk (λ own. TableEnds sender clock clock' own input input' old.out new.out) ended input input' old
        new
    pub reads : WhereTold input.left (ReadsToEnd input.reads input'.reads)
