use Rattle.tb_lock.specs.Passes.{IsPassOf, IsIdle}
use Rattle.tb_lock_tests.proofs.tests.append_all.Given as goal

-- the pass is between turns of this lock
abbrev pub invariant-loop-i : goal.invariant-loop-i
invariant-loop-i g l = IsPassOf l.lock l.pass × IsIdle l.pass
