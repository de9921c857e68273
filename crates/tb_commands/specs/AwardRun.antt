-- What the command `award` does to its input and its output.
use Rattle.std.specs.Prelude.{◌≡◌, ℕ, ◌+◌, List, length, Bool}
use Rattle.tb_link.specs.Counts.{Rose}
use Rattle.tb_link.specs.Sources.{SourceState}
use Rattle.tb_link.specs.Sinks.{SinkState, after_taken, TakesPrefix}
use Rattle.tb_text_book.specs.BookReading.{IsOpenBook, ReadsBadLine}
use Rattle.tb_text_book.specs.BookRun.{IsBookRun}
use Rattle.tb_lines.specs.Reads.{CutsOpen, LeavesOpen, ReadsLines, ReadsWithoutFault}
use Rattle.tb_lines.specs.Told.{WhereTold}
use Rattle.tb_commands.specs.declared.command_endings.TextEnding.{TextEnding}
use Rattle.tb_commands.specs.declared.command_endings.TextEnding.TheVariants as ending

-- the input begins with a book, nothing behind the line that ends it was read, and the output has taken the text of its
-- auction
pub record Printed (full : Bool) (input input' : SourceState) (out out' : SinkState) (bytes : List ℕ) : Type 0 where
  pub text : List ℕ
  pub run : IsBookRun full bytes text
  pub reads : ReadsLines (length run.begins.front + 1) input.reads input'.reads bytes
  pub taken : out'.taken ≡ after_taken out.taken text

-- the same, but the output has taken a prefix of the text
pub record PrintedPrefix (full : Bool) (input input' : SourceState) (out out' : SinkState) (bytes : List ℕ) : Type 0
  where
    pub text : List ℕ
    pub run : IsBookRun full bytes text
    pub reads : ReadsLines (length run.begins.front + 1) input.reads input'.reads bytes
    pub taken : TakesPrefix out out' text

-- How the command ends, where the input and the output go from the first states to the second. Where a read failed the
-- lines taken are a book without its end, so that none is made once that is there.
abbrev pub AwardEnds : Bool → TextEnding → SourceState → SourceState → SinkState → SinkState → Type 0
AwardEnds full ending.Done input input' out out' =
    ReadsWithoutFault input input' (Printed full input input' out out') × (out'.faults ≡ out.faults)
AwardEnds full (ending.BadInput number) input input' out out' =
    (out' ≡ out) × ReadsWithoutFault input input' (ReadsBadLine number input.reads input'.reads)
AwardEnds full ending.ReadFault input input' out out' =
    (out' ≡ out) × Rose input.faults input'.faults
    × WhereTold input.left (CutsOpen IsOpenBook input.reads input'.reads input'.left)
AwardEnds full ending.WriteFault input input' out out' =
    Rose out.faults out'.faults × ReadsWithoutFault input input' (PrintedPrefix full input input' out out')
AwardEnds full ending.OutOfMemory input input' out out' =
    (out' ≡ out) × ReadsWithoutFault input input' (LeavesOpen IsOpenBook input.reads input'.reads)
