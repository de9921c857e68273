-- as many gates as turns of the loop, and room for the rest
use Rattle.std.proofs.Common.{◌≡◌, ◌≤◌, vec_len, vec_capacity}
use Rattle.tb_program.proofs.gates.Given as goal

abbrev pub invariant-loop : goal.invariant-loop
invariant-loop l = (vec_len l.gates ≡ l.counter) × (l.end ≤ vec_capacity l.gates)
