use Rattle.std.proofs.Common.{◌≡◌, ◌+◌, ◌-◌, ◌≤◌, length, vec_len}
use Rattle.tb_link.specs.Sources.{before_left}
use Rattle.tb_commands.proofs.table_input.read_text.Given as goal

-- the text is what the input gave so far, at least a byte a read
abbrev pub invariant-loop-space : goal.invariant-loop-space
invariant-loop-space g l =
    let source = g.I.Source.source in
    ((source l.fn.input).left ≡ before_left l.text.items (source l.input).left)
    × ((source l.input).faults ≡ (source l.fn.input).faults)
    × ((source l.input).reads ≤ (source l.fn.input).reads + length l.text.items)

-- bytes that a table may still have
abbrev pub decreases-loop-space : goal.decreases-loop-space
decreases-loop-space g l = 134217729 - vec_len l.text
