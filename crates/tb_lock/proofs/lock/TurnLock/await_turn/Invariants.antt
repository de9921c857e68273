use Rattle.std.proofs.Common.{◌≡◌}
use Rattle.tb_lock.proofs.lock.TurnLock.await_turn.Given as goal

-- the pass waits as before
abbrev pub invariant-loop : goal.invariant-loop
invariant-loop g l = (l.seat.table_id ≡ l.initial.seat.table_id) × (l.seat.me ≡ l.initial.seat.me)
