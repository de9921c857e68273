-- Texts, as lines of words.
use Rattle.std.specs.Prelude.{ℕ, List, [], ◌∷◌, ◌++◌}
use Rattle.std.specs.List.{flat_map}
use Rattle.tb_units.specs.Bytes.{line_feed}
use Rattle.tb_message.specs.Verdicts.{spaced}

-- the words of a line, each as its bytes
abbrev pub Words : Type 0
Words = List (List ℕ)

-- a line: its words with a space between, and a line feed
abbrev pub line : Words → List ℕ
line [] = line_feed ∷ []
line (word ∷ words) = word ++ spaced words ++ line_feed ∷ []

-- a text: its lines, one behind the other
abbrev pub text_of : List Words → List ℕ
text_of lines = flat_map line lines

-- a text with further lines behind it
abbrev pub with_lines : List ℕ → List Words → List ℕ
with_lines text [] = text
with_lines text (words ∷ lines) = with_lines (text ++ line words) lines
