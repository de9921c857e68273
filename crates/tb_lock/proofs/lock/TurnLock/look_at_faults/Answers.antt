use Rattle.std.proofs.Common.{rules}
use Rattle.tb_lock.proofs.TakeLemmas.{looks_at_faults}
use Rattle.tb_lock.proofs.lock.TurnLock.look_at_faults.Goals as goal

pub load-requires : goal.load-requires
load-requires g c = (
  search rules,
  search rules,
  looks_at_faults g.T.Annals.means _ _ c.requires.come.0 _
      c.requires.come.1,
)
