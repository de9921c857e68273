-- How many reads there were of a text.
use Rattle.std.specs.Prelude.{◌≡◌, ℕ, ◌+◌, ◌<◌, ◌≤◌, ◌⊎◌, List, [], ◌++◌, length, Option, Some, None, Bool, true, position}
use Rattle.std.specs.Str.Lines.{lines}
use Rattle.tb_link.specs.Sources.{SourceState}
use Rattle.tb_lines.specs.LineEnds.{is_line_feed}
use Rattle.tb_lines.specs.Told.{WhereTold}

-- these bytes were read and nothing behind them: each read gave at least one of them, but for one that found the end of
-- the input, where nothing follows
abbrev pub AreReads : ℕ → ℕ → List ℕ → List ℕ → Type 0
AreReads before after taken rest =
    (after ≤ before + length taken) ⊎ ((rest ≡ []) × (after ≤ before + length taken + 1))

-- of a text the first lines were read, at most so many, and nothing behind them
pub record ReadsLines (most before after : ℕ) (text : List ℕ) : Type 0 where
  pub taken : List ℕ
  pub rest : List ℕ
  pub text_is : text ≡ taken ++ rest
  pub reads : AreReads before after taken rest
  -- what was taken is these lines, up to the line feed of the last
  pub front : List (List ℕ)
  pub lines_are : lines text ≡ front ++ lines rest
  pub few : length front ≤ most

-- a text was read to its end at most: each read gave at least one of its bytes, but for one that found its end
abbrev pub ReadsToEnd : ℕ → ℕ → List ℕ → Type 0
ReadsToEnd before after text = after ≤ before + length text + 1

-- the input was read without a fault, and where it is told this is so of its text
pub record ReadsWithoutFault (input input' : SourceState) (Holds : List ℕ → Type 0) : Type 0 where
  pub no_fault : input'.faults ≡ input.faults
  pub told : WhereTold input.left Holds

-- so much of a text was taken with no read behind it, and so much follows; whether the end of the input was found
pub record ReadsNoMore (before after : ℕ) (ended : Bool) (behind : Option (List ℕ)) (text : List ℕ) : Type 0 where
  pub taken : List ℕ
  pub rest : List ℕ
  pub behind_is : behind ≡ Some rest
  pub text_is : text ≡ taken ++ rest
  pub reads : AreReads before after taken rest
  pub found : before + length taken < after → ended ≡ true

-- the first lines of a text were read, and this is so of them; nothing behind the next line was read
pub record LeavesOpen (IsOpen : List (List ℕ) → Type 0) (before after : ℕ) (text : List ℕ) : Type 0 where
  pub front : List (List ℕ)
  pub rest : List (List ℕ)
  pub lines_are : lines text ≡ front ++ rest
  pub is_open : IsOpen front
  pub reads : ReadsLines (length front + 1) before after text

-- so much of the input is left, and this is so of the lines that were whole in the bytes taken: of the one behind them
-- no line feed was taken
pub record CutsOpen (IsOpen : List (List ℕ) → Type 0) (before after : ℕ) (left : Option (List ℕ)) (text : List ℕ)
    : Type 0 where
  pub front : List (List ℕ)
  pub taken : List ℕ
  pub begun : List ℕ
  pub rest : List ℕ
  pub left_is : left ≡ Some rest
  pub text_is : text ≡ taken ++ (begun ++ rest)
  pub lines_are : lines text ≡ front ++ lines (begun ++ rest)
  pub begun_only : position is_line_feed begun ≡ None
  pub is_open : IsOpen front
  pub reads : ReadsLines (length front + 1) before after text
