-- The workers dismissed so far.
use Rattle.std.proofs.Common.{◌≡◌, ◌≤◌, ◌+◌, sum_by, All, vec_len, vec_capacity}
use Rattle.tb_lock.specs.Passes.{IsPassOf, IsIdle, view}
use Rattle.tb_session.specs.Work.{IsReady}
use Rattle.tb_session.specs.Serve.{Dismisses, served_of}
use Rattle.tb_session.proofs.serve.dismiss.Given as goal

-- the workers so far gave what they have, and there is room for the gates of the others
abbrev pub invariant-loop-workers : goal.invariant-loop-workers
invariant-loop-workers g l = record {
  own : IsPassOf l.shared l.pass;
  idle : IsIdle l.pass;
  ready : All (IsReady l.shared) l.workers.items;
  dismisses : Dismisses (view l.fn.pass) (view l.pass) l.fn.workers.items l.workers.items l.gates.items l.one_failed;
  served : l.total + sum_by served_of l.workers.items ≡ sum_by served_of l.fn.workers.items;
  room : vec_len l.gates + vec_len l.workers ≤ vec_capacity l.gates;
}

abbrev pub decreases-loop-workers : goal.decreases-loop-workers
decreases-loop-workers g l = vec_len l.workers
