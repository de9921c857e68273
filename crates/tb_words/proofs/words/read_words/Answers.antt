use Rattle.std.proofs.Common.{refl}
use Rattle.tb_words.proofs.words.read_words.Goals as goal

pub returns-in-None-clause-usage : goal.returns-in-None-clause-usage
returns-in-None-clause-usage c =
    (λ same inside. c.in-None.ensures.none inside.0 inside.1, λ outside. refl)
