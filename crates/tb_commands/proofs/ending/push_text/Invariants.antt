use Rattle.std.proofs.Common.{◌≡◌, ◌++◌, take}
use Rattle.tb_commands.proofs.ending.push_text.Given as goal

-- the bytes so far were pushed
abbrev pub invariant-loop-byte : goal.invariant-loop-byte
invariant-loop-byte l = l.text ≡ l.fn.text ++ take l.byte-index l.bytes
