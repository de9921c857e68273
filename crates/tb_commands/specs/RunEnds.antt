-- What the command `run` does to its input, its output and its disk, and how each command on the disk ends.
use Rattle.std.specs.Prelude.{◌≡◌, ℕ, ◌+◌, List, ◌∷◌, ◌++◌, length, Some, None, position}
use Rattle.std.specs.Str.Lines.{lines}
use Rattle.tb_link.specs.Counts.{Rose}
use Rattle.tb_link.specs.Sources.{SourceState}
use Rattle.tb_link.specs.Sinks.{SinkState, after_taken}
use Rattle.tb_disk.specs.Disks.{DiskState}
use Rattle.tb_desk.specs.declared.fault.OpenFault.{OpenFault}
use Rattle.tb_commands.specs.DiskRun.{OnDesk, Unopened}
use Rattle.tb_lines.specs.LineEnds.{is_line_feed}
use Rattle.tb_lines.specs.Reads.{ReadsLines, ReadsWithoutFault}
use Rattle.tb_commands.specs.ScriptRun.{IsActedOn, IsRun}
use Rattle.tb_commands.specs.Scripts.{BeginsWithScript, StopsBehind}
use Rattle.tb_commands.specs.Standings.{Standing}
use Rattle.tb_lines.specs.Told.{WhereTold}
use Rattle.tb_commands.specs.declared.command_endings.DiskEnding.{DiskEnding}
use Rattle.tb_commands.specs.declared.command_endings.DiskEnding.TheVariants as disk_ending
use Rattle.tb_commands.specs.declared.command_endings.TextEnding.{TextEnding}
use Rattle.tb_commands.specs.declared.command_endings.TextEnding.TheVariants as ending

-- these lines were acted on, from where the script stood first to where it stands last, and the output has taken the
-- replies to them
pub record ActedOn (operator : List ℕ) (first last : Standing) (out out' : SinkState) (acted : List (List ℕ)) : Type 0
  where
    pub replies : List ℕ
    pub run : IsRun operator first acted replies last
    pub taken : out'.taken ≡ after_taken out.taken replies

-- nothing was read behind the line that follows these: each of these was answered before
abbrev pub ReadsNext : List (List ℕ) → SourceState → SourceState → List ℕ → Type 0
ReadsNext acted input input' text = ReadsLines (length acted + 1) input.reads input'.reads text

-- the input begins with a script, each of its lines was acted on, and the output has taken the replies; nothing behind
-- the line that ends the script was read
pub record Finished (operator : List ℕ) (input input' : SourceState) (out out' : SinkState) (first last : Standing)
    (text : List ℕ) : Type 0
  where
    pub acted : List (List ℕ)
    pub script : BeginsWithScript (lines text) acted
    pub reads : ReadsNext acted input input' text
    pub replies : ActedOn operator first last out out' acted

-- the line of this number is the first outside the grammar, those before it were acted on, and nothing behind it was
-- read
pub record Stopped (number : ℕ) (operator : List ℕ) (input input' : SourceState) (out out' : SinkState)
    (first last : Standing) (text : List ℕ) : Type 0
  where
    pub acted : List (List ℕ)
    pub stops : StopsBehind number (lines text) acted
    pub reads : ReadsNext acted input input' text
    pub replies : ActedOn operator first last out out' acted

-- so much of the input is left, and the lines that were whole in the bytes taken were acted on: of the one behind
-- them no line feed was taken
pub record CutOff (operator : List ℕ) (input input' : SourceState) (out out' : SinkState) (first last : Standing)
    (text : List ℕ) : Type 0 where
  pub acted : List (List ℕ)
  pub front : List ℕ
  pub begun : List ℕ
  pub rest : List ℕ
  pub left_is : input'.left ≡ Some rest
  pub text_is : text ≡ front ++ (begun ++ rest)
  pub lines_are : lines text ≡ acted ++ lines (begun ++ rest)
  pub begun_only : position is_line_feed begun ≡ None
  pub reads : ReadsNext acted input input' text
  pub replies : ActedOn operator first last out out' acted

-- the first lines of the input were acted on, and the output has taken the replies
pub record LeftOff (operator : List ℕ) (input input' : SourceState) (out out' : SinkState) (first last : Standing)
    (text : List ℕ) : Type 0 where
  pub acted : List (List ℕ)
  pub rest : List (List ℕ)
  pub lines_are : lines text ≡ acted ++ rest
  pub reads : ReadsNext acted input input' text
  pub replies : ActedOn operator first last out out' acted

-- the first lines of the input were acted on, and then the line behind them; the output has taken the replies, of the
-- last one a part
pub record BrokenOff (operator : List ℕ) (input input' : SourceState) (out out' : SinkState) (first last : Standing)
    (text : List ℕ) : Type 0 where
  pub acted : List (List ℕ)
  pub line : List ℕ
  pub rest : List (List ℕ)
  pub lines_are : lines text ≡ acted ++ line ∷ rest
  pub reads : ReadsNext acted input input' text
  pub replies : List ℕ
  pub before : Standing
  pub run : IsRun operator first acted replies before
  pub part : List ℕ
  pub lost : List ℕ
  pub acted_last : IsActedOn operator before line (part ++ lost) last
  pub taken : out'.taken ≡ after_taken out.taken (replies ++ part)

-- how a script ends on a desk, where input and output go from the first states to the second
abbrev pub ScriptEnds : List ℕ → TextEnding → SourceState → SourceState → SinkState → SinkState → Standing → Standing
    → Type 0
ScriptEnds operator ending.Done input input' out out' first last =
    ReadsWithoutFault input input' (Finished operator input input' out out' first last) × (out'.faults ≡ out.faults)
ScriptEnds operator (ending.BadInput number) input input' out out' first last =
    ReadsWithoutFault input input' (Stopped number operator input input' out out' first last)
    × (out'.faults ≡ out.faults)
ScriptEnds operator ending.ReadFault input input' out out' first last =
    Rose input.faults input'.faults × WhereTold input.left (CutOff operator input input' out out' first last)
ScriptEnds operator ending.WriteFault input input' out out' first last =
    Rose out.faults out'.faults × ReadsWithoutFault input input' (BrokenOff operator input input' out out' first last)
ScriptEnds operator ending.OutOfMemory input input' out out' first last =
    ReadsWithoutFault input input' (LeftOff operator input input' out out' first last) × (out'.faults ≡ out.faults)

-- what a command writes on: its output and its disk
pub record Devices : Type 0 where
  pub out : SinkState
  pub disk : DiskState

-- the desk wasn't opened, for this reason: nothing was read and nothing written
pub record NotBegun (why : OpenFault) (input input' : SourceState) (old new : Devices) : Type 0 where
  pub unopened : Unopened why old.disk new.disk
  pub unread : input' ≡ input
  pub silent : new.out ≡ old.out

-- how a command on the disk ends: so, on a desk that was opened, or none was opened
abbrev pub EndsOnDisk : {E : Type 0} → (E → Standing → Standing → Type 0) → DiskEnding E → SourceState → SourceState
    → Devices → Devices
    → Type 0
EndsOnDisk Holds (disk_ending.Opened own) input input' old new = OnDesk old.disk new.disk (Holds own)
EndsOnDisk Holds (disk_ending.Unopened why) input input' old new = NotBegun why input input' old new

-- how the command ends: a script ended on a desk, or none was opened
abbrev pub RunEnds : List ℕ → DiskEnding TextEnding → SourceState → SourceState → Devices → Devices → Type 0
RunEnds operator ended input input' old new =
    EndsOnDisk (λ own. ScriptEnds operator own input input' old.out new.out) ended input input' old new
