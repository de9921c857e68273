-- Scripts (our own form): lines that ask, then the line `end`.
use Rattle.std.specs.Prelude.{◌≡◌, ℕ, ◌+◌, ◌<◌, ◌≤◌, ◌⊎◌, List, ◌∷◌, ◌++◌, length}
use Rattle.std.specs.List.{AllByRecursion}
use Rattle.tb_lines.specs.LineEnds.{most_lines}
use Rattle.tb_text_book.specs.Grammars.{LeavesGrammar}
use Rattle.tb_commands.specs.ScriptLines.{IsAsk, IsEnd}

-- the lines begin with a script that asks by these lines, up to its end; nothing behind that is looked at
pub record BeginsWithScript (lines asking : List (List ℕ)) : Type 0 where
  pub last : List ℕ
  pub rest : List (List ℕ)
  pub lines_are : lines ≡ asking ++ last ∷ rest
  pub ask : AllByRecursion IsAsk asking
  pub end : IsEnd last
  pub few : length asking < most_lines

-- the line may stand in a script
abbrev pub MayStand : List ℕ → Type 0
MayStand text = IsAsk text ⊎ IsEnd text

-- the line of this number, counted from 1, is the first outside the grammar, and stands behind these, which ask
pub record StopsBehind (number : ℕ) (lines asking : List (List ℕ)) : Type 0 where
  pub rest : List (List ℕ)
  pub lines_are : lines ≡ asking ++ rest
  pub ask : AllByRecursion IsAsk asking
  pub few : length asking ≤ most_lines
  pub bad : LeavesGrammar MayStand (length asking) rest
  pub number_is : length asking + 1 ≡ number

-- the lines begin with a script
abbrev pub HasScript : List (List ℕ) → Type 0
HasScript lines = (asking : List (List ℕ)) × BeginsWithScript lines asking

-- the line of this number is the first outside the grammar of scripts
abbrev pub LeavesScript : ℕ → List (List ℕ) → Type 0
LeavesScript number lines = (asking : List (List ℕ)) × StopsBehind number lines asking
