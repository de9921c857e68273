use Rattle.std.proofs.Common.{◌≡◌, ◌++◌, take}
use Rattle.std.specs.Prelude.{codes}
use Rattle.tb_commands.specs.Endings.{hexadecimal}
use Rattle.tb_commands.proofs.ending.not_a_journal.Given as goal

-- the digits of the bytes so far were pushed
abbrev pub invariant-loop-byte : goal.invariant-loop-byte
invariant-loop-byte l = l.message ≡ codes "not a journal " ++ hexadecimal (take l.byte-index l.found)
