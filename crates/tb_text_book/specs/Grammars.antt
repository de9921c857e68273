-- Where lines leave a grammar.
use Rattle.std.specs.Prelude.{ℕ, ◌≤◌, ◌⊎◌, List, [], ◌∷◌}
use Rattle.tb_lines.specs.LineEnds.{most_lines}

-- behind so many lines no line stands, or one too many, or one that may not
abbrev pub LeavesGrammar : (List ℕ → Type 0) → ℕ → List (List ℕ) → Type 0
LeavesGrammar MayStand count [] = Unit {0}
LeavesGrammar MayStand count (text ∷ texts) = (most_lines ≤ count) ⊎ ¬ (MayStand text)
