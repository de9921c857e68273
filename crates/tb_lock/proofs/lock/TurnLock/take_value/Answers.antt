use Rattle.std.proofs.Common.{rules, ◌∷◌, Some, sym, ap, ◌∙◌}
use Rattle.atomic_table.specs.Table.{rest}
use Rattle.tb_lock.proofs.lock.TurnLock.take_value.Goals as goal

pub exchange-requires : goal.exchange-requires
exchange-requires g c =
    let carried = c.requires.carried in
    (search rules, (Some carried.0, carried.1 ∙ ap (λ xs. (0, Some carried.0) ∷ xs) (sym (ap rest carried.1))))
