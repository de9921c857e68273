-- The workers hired so far.
use Rattle.std.proofs.Common.{◌≡◌, ◌≤◌, ◌+◌, vec_len, vec_capacity}
use Rattle.tb_lock.specs.Passes.{IsPassOf, IsIdle, view}
use Rattle.tb_session.specs.Serve.{Hires}
use Rattle.tb_session.proofs.serve.hire.Given as goal

-- the gates so far have workers, and there is room for the others
abbrev pub invariant-loop-gates : goal.invariant-loop-gates
invariant-loop-gates g l = record {
  own : IsPassOf l.shared l.pass;
  idle : IsIdle l.pass;
  hires : Hires l.shared (view l.fn.pass) (view l.pass) l.fn.gates.items l.gates.items l.workers.items;
  capacity : vec_capacity l.gates ≡ vec_capacity l.fn.gates;
  room : vec_len l.workers + vec_len l.gates ≤ vec_capacity l.workers;
}

abbrev pub decreases-loop-gates : goal.decreases-loop-gates
decreases-loop-gates g l = vec_len l.gates
