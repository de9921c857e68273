-- What acting on one line of a script does.
use Rattle.std.specs.Prelude.{◌≡◌, ℕ, List, [], ◌∷◌, Bool, false, Option, Some, None, position}
use Rattle.std.specs.Str.Lines.{lines}
use Rattle.tb_link.specs.Counts.{Rose}
use Rattle.tb_link.specs.Sources.{SourceState}
use Rattle.tb_link.specs.Sinks.{SinkState, Takes, FailsToTake}
use Rattle.tb_lines.specs.LineEnds.{is_line_feed}
use Rattle.tb_lines.specs.Lines.{ahead, unread}
use Rattle.tb_lines.specs.Reads.{ReadsNoMore}
use Rattle.tb_commands.specs.ScriptLines.{IsEnd}
use Rattle.tb_commands.specs.ScriptRun.{IsActedOn}
use Rattle.tb_commands.specs.Scripts.{MayStand}
use Rattle.tb_commands.specs.Standings.{Standing}
use Rattle.tb_lines.specs.Told.{WhereTold}
use Rattle.tb_commands.specs.declared.command_endings.TextEnding.{TextEnding}
use Rattle.tb_commands.specs.declared.command_endings.TextEnding.TheVariants as ending
use Rattle.tb_lines.specs.declared.input.LineReader.{LineReader}

-- a line was acted on, and the output has taken the reply
pub record Acts (operator line : List ℕ) (old new : Standing) (out out' : SinkState) : Type 0 where
  pub reply : List ℕ
  pub acted : IsActedOn operator old line reply new
  pub takes : Takes out out' reply

-- a line was acted on, and the output has failed to take the reply
pub record ActsInVain (operator line : List ℕ) (old new : Standing) (out out' : SinkState) : Type 0 where
  pub reply : List ℕ
  pub acted : IsActedOn operator old line reply new
  pub fails : FailsToTake out out' reply

-- where the script stands and the output are as they were
abbrev pub Stay : Standing → Standing → SinkState → SinkState → Type 0
Stay old new out out' = (new ≡ old) × (out' ≡ out)

-- the line of this number was acted on, and the script goes on, or ends so
abbrev pub LineEnds : List ℕ → ℕ → List ℕ → Option TextEnding → Standing → Standing → SinkState → SinkState → Type 0
LineEnds operator number line None old new out out' = Acts operator line old new out out'
LineEnds operator number line (Some ending.Done) old new out out' = IsEnd line × Stay old new out out'
LineEnds operator number line (Some (ending.BadInput at)) old new out out' =
    (at ≡ number) × (¬ (MayStand line)) × Stay old new out out'
LineEnds operator number line (Some ending.WriteFault) old new out out' = ActsInVain operator line old new out out'
LineEnds operator number line (Some ending.OutOfMemory) old new out out' = Stay old new out out'
LineEnds operator number line (Some ended) old new out out' = ⊥

-- the line is the first of a text, and nothing behind it was read
pub record IsNext (before after : ℕ) (ended : Bool) (line : List ℕ) (behind : Option (List ℕ)) (text : List ℕ) : Type 0
  where
    pub reads : ReadsNoMore before after ended behind text
    pub lines_are : lines text ≡ line ∷ lines reads.rest

-- no line that may stand in a script comes next
abbrev pub NoneStands : List (List ℕ) → Type 0
NoneStands [] = Unit {0}
NoneStands (line ∷ lines) = ¬ (MayStand line)

-- how far a run has come: the reader with its source, where the script stands, and the output
pub record RunState : Type 0 where
  pub reader : LineReader
  pub source : SourceState
  pub stands : Standing
  pub out : SinkState

-- a line was taken from what is ahead, with no fault, and this is so of it
pub record TakesLine (old new : RunState) (Holds : List ℕ → Type 0) : Type 0 where
  pub line : List ℕ
  pub next : WhereTold (ahead old.reader old.source)
      (IsNext old.source.reads new.source.reads new.reader.pieces.ended line (ahead new.reader new.source))
  pub no_fault : new.source.faults ≡ old.source.faults
  pub holds : Holds line

-- the next line, the line of this number, was acted on, and the script goes on, or ends so
abbrev pub NextEnds : List ℕ → ℕ → Option TextEnding → RunState → RunState → Type 0
NextEnds operator number None old new =
    TakesLine old new (λ line. Acts operator line old.stands new.stands old.out new.out)
NextEnds operator number (Some ending.Done) old new =
    TakesLine old new IsEnd × Stay old.stands new.stands old.out new.out
NextEnds operator number (Some (ending.BadInput at)) old new =
    (at ≡ number)
    × (new.source.faults ≡ old.source.faults)
    × WhereTold (ahead old.reader old.source) (λ text. NoneStands (lines text))
    × Stay old.stands new.stands old.out new.out
NextEnds operator number (Some ending.ReadFault) old new =
    Rose old.source.faults new.source.faults
    × (ahead new.reader new.source ≡ ahead old.reader old.source)
    × (new.reader.pieces.ended ≡ false)
    × (position is_line_feed (unread new.reader) ≡ None)
    × Stay old.stands new.stands old.out new.out
NextEnds operator number (Some ending.WriteFault) old new =
    TakesLine old new (λ line. ActsInVain operator line old.stands new.stands old.out new.out)
NextEnds operator number (Some ending.OutOfMemory) old new =
    (new.source.faults ≡ old.source.faults) × Stay old.stands new.stands old.out new.out
