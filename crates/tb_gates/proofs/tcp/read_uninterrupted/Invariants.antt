use Rattle.std.proofs.Common.{◌≡◌, length}
use Rattle.tb_gates.proofs.tcp.read_uninterrupted.Given as goal

-- the buffer keeps its length
abbrev pub invariant-loop : goal.invariant-loop
invariant-loop l = length l.into ≡ length l.initial.into
