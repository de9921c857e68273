-- Where lines end, how long they may be, and how many.
use Rattle.std.specs.Prelude.{ℕ, ◌<◌, ◌≤◌, ◌==◌, List, length, Bool}
use Rattle.tb_units.specs.Bytes.{line_feed}
use Rattle.tb_lines.specs.declared.line_end.NextLine.{NextLine}
use Rattle.tb_lines.specs.declared.line_end.NextLine.TheVariants as next

-- bytes that a line may have, without its line feed and the one carriage return before that
abbrev pub longest_line : ℕ
longest_line = 8192

-- lines of a book or of a script, at most
abbrev pub most_lines : ℕ
most_lines = 1000000

-- the byte that ends a line
abbrev pub is_line_feed : ℕ → Bool
is_line_feed byte = byte == line_feed

-- a line is short enough, or too long
abbrev pub FitsLine : NextLine → List ℕ → Type 0
FitsLine next.Line line = length line ≤ longest_line
FitsLine next.End line = ⊥
FitsLine next.TooLong line = longest_line < length line
