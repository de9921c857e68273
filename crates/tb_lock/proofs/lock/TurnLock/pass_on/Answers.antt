use Rattle.std.proofs.Common.{rules}
use Rattle.tb_lock.proofs.StepLemmas.{passes_on}
use Rattle.tb_lock.proofs.lock.TurnLock.pass_on.Goals as goal

pub fetch_add-served-requires : goal.fetch_add-served-requires
fetch_add-served-requires g c =
    (search rules, search rules, passes_on g.T.Annals.means _ _ c.requires.counted.0 _ c.requires.counted.1)
