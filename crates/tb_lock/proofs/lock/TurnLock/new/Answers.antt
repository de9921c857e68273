use Rattle.std.proofs.Common.{[], ◌∷◌, ◌++◌, Some, ap, ◌∙◌}
use Rattle.tb_lock.proofs.ClosingLemmas.{opens}
use Rattle.tb_lock.proofs.lock.TurnLock.new.Goals as goal

pub new-requires : goal.new-requires
new-requires g c =
    opens g.T.Annals.means c.args.value c.of-given.result.value c.push_reserved.new.self.items
    c.entries-entries.result c.faults-faults.result c.requires.no_doubt
    (c.push_reserved.ensures.items
    ∙ ap (λ xs. xs ++ Some c.args.value ∷ []) (c.reserve.ensures.items ∙ c.new-slots.ensures.items))
    c.of-given.ensures c.entries-entries.ensures c.faults-faults.ensures
