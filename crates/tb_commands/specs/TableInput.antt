-- A table of bids that is read from the input.
use Rattle.std.specs.Prelude.{◌≡◌, ◌⊎◌, ℕ, ◌<◌, List, [], ◌++◌, length, Some, Result, Ok, Err}
use Rattle.tb_link.specs.Counts.{Rose}
use Rattle.tb_link.specs.Sources.{SourceState}
use Rattle.tb_message.specs.declared.message.Message.{Message}
use Rattle.tb_desk.specs.Turn.{AreBids, AreNumbered}
use Rattle.tb_import.specs.Tables.{IsFirstBad, IsTable, most_bytes}
use Rattle.tb_lines.specs.Reads.{ReadsWithoutFault}
use Rattle.tb_lines.specs.Told.{WhereTold}
use Rattle.tb_commands.specs.declared.command_endings.TextEnding.{TextEnding}
use Rattle.tb_commands.specs.declared.command_endings.TextEnding.TheVariants as ending

-- the input was read to its end, and this is its text; or the text is more of it than a table may have
abbrev pub HasText : List ℕ → SourceState → SourceState → Type 0
HasText text input input' =
    WhereTold input.left
    (λ bytes. (rest : List ℕ) × (input'.left ≡ Some rest) × (bytes ≡ text ++ rest)
    × ((rest ≡ []) ⊎ (most_bytes < length text)))

-- the input was read to its end, and is a table of these rows, each of which can be sent as a bid
pub record HasRows (input input' : SourceState) (rows : List (ℕ × Message)) : Type 0 where
  pub table : ReadsWithoutFault input input' (λ bytes. IsTable bytes rows × (input'.left ≡ Some []))
  pub bids : AreBids rows
  pub numbered : AreNumbered rows

-- the rows of the input, or how the command ends without them
abbrev pub AnswersInput : SourceState → SourceState → Result (List (ℕ × Message)) TextEnding → Type 0
AnswersInput input input' (Ok rows) = HasRows input input' rows
AnswersInput input input' (Err (ending.BadInput number)) =
    ReadsWithoutFault input input' (λ bytes. IsFirstBad bytes number)
AnswersInput input input' (Err ending.ReadFault) = Rose input.faults input'.faults
AnswersInput input input' (Err ending.OutOfMemory) = input'.faults ≡ input.faults
AnswersInput input input' (Err ended) = ⊥
