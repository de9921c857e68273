use Rattle.std.proofs.Common.{rules}
use Rattle.tb_lock.proofs.GiveLemmas.{raises_faults}
use Rattle.tb_lock.proofs.lock.TurnLock.raise_faults.Goals as goal

pub fetch_add-requires : goal.fetch_add-requires
fetch_add-requires g c = (
  search rules,
  search rules,
  raises_faults g.T.Annals.means _ _ c.requires.holds.0 _ _ c.requires.holds.1
      c.requires.fits,
)
