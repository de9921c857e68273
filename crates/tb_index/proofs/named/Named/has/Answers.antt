-- A row has the key just where there is a first one.
use Rattle.std.proofs.Common.{is_some, ap, ◌∙◌}
use Rattle.tb_index.proofs.PositionLemmas.{any-placed}
use Rattle.tb_index.proofs.named.Named.has.Goals as goal

pub returns : goal.returns
returns g c =
    c.is_some.ensures
    ∙ (ap is_some c.find.ensures
    ∙ any-placed (λ row. g.By.Key.PartialEq.eq (g.By.KeyOf.key_of row) c.args.key.now) c.args.self.now.list)
