use Rattle.std.proofs.Common.{◌≤◌, length}
use Rattle.tb_disk.proofs.pages.read_whole.Given as goal

abbrev pub invariant-loop : goal.invariant-loop
invariant-loop l = l.count ≤ length l.into
