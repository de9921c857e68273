-- The lines of a script (our own form).
use Rattle.std.specs.Prelude.{◌≡◌, ◌≢◌, ℕ, ◌≤◌, List, [], ◌∷◌, ◌++◌, length, drop, Some, codes}
use Rattle.std.specs.Fmt.{decimal}
use Rattle.tb_units.specs.Bytes.{blank}
use Rattle.tb_units.specs.declared.moment.Moment.{Moment}
use Rattle.tb_message.specs.Keys.{key_of}
use Rattle.tb_message.specs.declared.key.Key.{Key}
use Rattle.tb_lines.specs.LineEnds.{longest_line}
use Rattle.tb_commands.specs.declared.script_line.Ask.{Ask}
use Rattle.tb_commands.specs.declared.script_line.ScriptLine.{ScriptLine}
use Rattle.tb_commands.specs.declared.script_line.ScriptLine.TheVariants as kind

-- `MOMENT KEY JSON`: what the caller of a key asks at a moment. The JSON is all that follows the second space, at least
-- a byte, whatever it says
pub record SpellsAsk (text : List ℕ) (moment : Moment) (key : Key) (json : List ℕ) : Type 0 where
  pub word : List ℕ
  pub written : text ≡ decimal moment.seconds ++ blank ∷ (word ++ blank ∷ json)
  pub key_is : key_of word ≡ Some key
  pub some : json ≢ []
  pub short : length text ≤ longest_line

-- the text is a line that asks
abbrev pub IsAsk : List ℕ → Type 0
IsAsk text = (moment : Moment) × (key : Key) × (json : List ℕ) × SpellsAsk text moment key json

-- the text is the line that ends a script
abbrev pub IsEnd : List ℕ → Type 0
IsEnd text = text ≡ codes "end"

-- the text is what is asked so, from a place on by its JSON
pub record SpellsFrom (text : List ℕ) (ask : Ask) : Type 0 where
  pub within : ask.json_at ≤ length text
  pub spells : SpellsAsk text ask.moment ask.key (drop ask.json_at text)

-- the text is this line of a script
abbrev pub SpellsLine : List ℕ → ScriptLine → Type 0
SpellsLine text (kind.Ask ask) = SpellsFrom text ask
SpellsLine text kind.End = IsEnd text
