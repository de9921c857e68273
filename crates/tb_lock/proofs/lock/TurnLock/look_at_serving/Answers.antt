use Rattle.std.proofs.Common.{rules}
use Rattle.tb_lock.proofs.StepLemmas.{looks_at_serving}
use Rattle.tb_lock.proofs.lock.TurnLock.look_at_serving.Goals as goal

pub load-requires : goal.load-requires
load-requires g c = (
  search rules,
  search rules,
  looks_at_serving g.T.Annals.means _ _ c.requires.waits.0 _
      c.requires.waits.2,
)
