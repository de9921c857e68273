use Rattle.std.proofs.Common.{rules}
use Rattle.tb_lock.proofs.GiveLemmas.{raises_count}
use Rattle.tb_lock.proofs.lock.TurnLock.raise_count.Goals as goal

pub fetch_add-requires : goal.fetch_add-requires
fetch_add-requires g c = let h = c.requires.may in
    (search rules, search rules, raises_count g.T.Annals.means _ _ _ g.K.Named.calls _ h)
