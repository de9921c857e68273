use Rattle.std.proofs.Common.{◌≡◌, ◌≤◌, ◌+◌, ◌*◌, ◌-◌, ◌++◌, List, length, map, take, Some, None, replicate, vec_len, vec_capacity}
use Rattle.tb_message.specs.declared.verdict.Verdict.{Verdict}
use Rattle.tb_commands.specs.ImportRun.{verdict_lines}
use Rattle.tb_commands.proofs.row_lines.push_verdicts.Given as goal

-- the lines of so many rows were put behind the text
abbrev pub invariant-loop-place : goal.invariant-loop-place
invariant-loop-place l =
    ((given : List Verdict)
    → length given ≡ length l.rows
    → l.verdicts ≡ map Some given ++ replicate (64 - length given) None
    → l.text.items ≡ l.fn.text.items ++ verdict_lines (take l.place l.rows) (take l.place given))
    × (vec_len l.text ≤ vec_len l.fn.text + 210 * l.place)
    × (vec_capacity l.text ≡ vec_capacity l.fn.text)
