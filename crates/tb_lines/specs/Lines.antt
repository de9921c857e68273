-- The lines that a source still has, and what reading one of them does.
use Rattle.std.specs.Prelude.{◌≡◌, ℕ, ◌<◌, ◌≤◌, List, [], ◌∷◌, ◌++◌, length, slice_range, Option, Some}
use Rattle.std.specs.Str.Lines.{lines}
use Rattle.tb_link.specs.Sources.{SourceState}
use Rattle.tb_lines.specs.LineEnds.{longest_line}
use Rattle.tb_lines.specs.Pieces as pieces
use Rattle.tb_lines.specs.Pieces.{coming, held, waiting}
use Rattle.tb_lines.specs.declared.input.LineReader.{LineReader}
use Rattle.tb_lines.specs.LineEnds.{FitsLine}
use Rattle.tb_lines.specs.declared.line_end.NextLine.{NextLine}
use Rattle.tb_lines.specs.declared.line_end.NextLine.TheVariants as next

-- the bytes that the reader has and has not given yet
abbrev pub unread : LineReader → List ℕ
unread reader = waiting reader.pieces

-- the line that the reader gave last
abbrev pub current : LineReader → List ℕ
current reader = slice_range (held reader.pieces) reader.from reader.to

-- the bytes to come, where the source tells those left
abbrev pub ahead : LineReader → SourceState → Option (List ℕ)
ahead reader source = coming reader.pieces source

-- where the end of the source was found it isn't read again
abbrev pub StaysAtEnd : LineReader → LineReader → SourceState → SourceState → Type 0
StaysAtEnd old new source source' = pieces.StaysAtEnd old.pieces new.pieces source source'

-- what is found in front of a text to come: a line that is short enough, and the text behind it; the end; or a line
-- that is too long
abbrev pub Finds : NextLine → List ℕ → List ℕ → Option (List ℕ) → Type 0
Finds next.Line text line behind =
    (length line ≤ longest_line) × ((rest : List ℕ) × (behind ≡ Some rest) × (lines text ≡ line ∷ lines rest))
Finds next.End text line behind = text ≡ []
Finds next.TooLong text line behind =
    (long : List ℕ) × (rest : List (List ℕ)) × (lines text ≡ long ∷ rest) × (longest_line < length long)

-- the same, where the source tells its bytes
abbrev pub FindsWhereTold : Option (List ℕ) → NextLine → List ℕ → Option (List ℕ) → Type 0
FindsWhereTold ahead found line behind = (text : List ℕ) → ahead ≡ Some text → Finds found text line behind

-- of the bytes that waited the reader gave a line, whatever follows them
abbrev pub GaveLine : List ℕ → LineReader → Type 0
GaveLine waited new = (more : List ℕ) → lines (waited ++ more) ≡ current new ∷ lines (unread new ++ more)

-- what the reader gives last of the bytes that waited, behind which nothing comes: the end, or a line without a line
-- feed
abbrev pub GaveLast : NextLine → List ℕ → LineReader → Type 0
GaveLast next.End waited new = (waited ≡ []) × (unread new ≡ [])
GaveLast found waited new = (lines waited ≡ current new ∷ []) × (unread new ≡ []) × FitsLine found (current new)
