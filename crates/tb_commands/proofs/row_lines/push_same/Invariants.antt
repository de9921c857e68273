use Rattle.std.proofs.Common.{◌≡◌, ◌≤◌, ◌+◌, ◌*◌, ◌++◌, ◌∷◌, [], take, vec_len, vec_capacity}
use Rattle.tb_units.specs.Bytes.{line_feed}
use Rattle.tb_commands.specs.ImportRun.{same_lines}
use Rattle.tb_commands.proofs.row_lines.push_same.Given as goal

-- the lines of so many rows were put behind the text
abbrev pub invariant-loop-row : goal.invariant-loop-row
invariant-loop-row l =
    (l.text.items ≡ l.fn.text.items ++ same_lines (l.answer ++ line_feed ∷ []) (take l.row-index l.rows))
    × (vec_len l.text ≤ vec_len l.fn.text + 210 * l.row-index)
    × (vec_capacity l.text ≡ vec_capacity l.fn.text)
