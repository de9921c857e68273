-- The bytes that a source still has, and those that were read of it and not given yet.
use Rattle.std.specs.Prelude.{◌≡◌, ℕ, ◌+◌, List, [], length, max, take, drop, Bool, true, false, Option}
use Rattle.std.specs.Option.{option_map}
use Rattle.tb_link.specs.Sources.{SourceState, before_left}
use Rattle.tb_lines.specs.declared.pieces.PieceReader.{PieceReader}

-- bytes that there is space for before a read, at least
abbrev pub piece_size : ℕ
piece_size = 8192

-- the bytes that were read, as far as the reader holds them
abbrev pub held : PieceReader → List ℕ
held pieces = take pieces.filled pieces.space.items

-- of these the bytes that were not given yet
abbrev pub waiting : PieceReader → List ℕ
waiting pieces = drop pieces.at (held pieces)

-- what is still to be read of a source: nothing once its end was found, and else what it has left
abbrev pub still_left : Bool → Option (List ℕ) → Option (List ℕ)
still_left false left = left
still_left true left = option_map (λ _. []) left

-- the bytes to come, where the source tells those left
abbrev pub coming : PieceReader → SourceState → Option (List ℕ)
coming pieces source = before_left (waiting pieces) (still_left pieces.ended source.left)

-- where the end of the source was found it isn't read again
abbrev pub StaysAtEnd : PieceReader → PieceReader → SourceState → SourceState → Type 0
StaysAtEnd old new source source' = old.ended ≡ true → (new.ended ≡ true) × (source'.reads ≡ source.reads)

-- space for these bytes and a piece behind them, or as many more of them
abbrev pub space_for : List ℕ → ℕ
space_for bytes = length bytes + max (length bytes) piece_size
