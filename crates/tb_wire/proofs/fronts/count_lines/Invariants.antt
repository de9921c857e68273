use Rattle.std.proofs.Common.{◌≡◌, ◌≤◌, length, take}
use Rattle.tb_wire.specs.Front.{lines_len}
use Rattle.tb_wire.proofs.fronts.count_lines.Given as goal

-- no LF stands behind
abbrev pub invariant-loop-len : goal.invariant-loop-len
invariant-loop-len l = (l.len ≤ length l.bytes) × (lines_len (take l.len l.bytes) ≡ lines_len l.bytes)

abbrev pub decreases-loop-len : goal.decreases-loop-len
decreases-loop-len l = l.len
