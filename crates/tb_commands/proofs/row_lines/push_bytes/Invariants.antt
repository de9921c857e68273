use Rattle.std.proofs.Common.{◌≡◌, ◌+◌, ◌++◌, take, vec_len, vec_capacity}
use Rattle.tb_commands.proofs.row_lines.push_bytes.Given as goal

-- so many bytes were put behind the text
abbrev pub invariant-loop-byte : goal.invariant-loop-byte
invariant-loop-byte l =
    (l.text.items ≡ l.fn.text.items ++ take l.byte-index l.bytes)
    × (vec_len l.text ≡ vec_len l.fn.text + l.byte-index)
    × (vec_capacity l.text ≡ vec_capacity l.fn.text)
