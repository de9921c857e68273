use Rattle.tb_lock.proofs.GiveLemmas.{counts-told}
use Rattle.tb_lock.proofs.lock.TurnLock.give.Goals as goal

pub end_turn-requires-clause-counts : goal.end_turn-requires-clause-counts
end_turn-requires-clause-counts g c = counts-told _ _ _ _ _
