-- What was read fits.
use Rattle.std.proofs.Common.{◌≤◌}
use Rattle.tb_program.proofs.word_files.read.Given as goal

abbrev pub invariant-loop : goal.invariant-loop
invariant-loop l = l.len ≤ 64
