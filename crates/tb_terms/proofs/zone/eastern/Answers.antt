use Rattle.std.proofs.Common.{refl}
use Rattle.jiff.proofs.OnLiterals.{jiff_on_literals}
use Rattle.tb_terms.proofs.zone.eastern.Goals as goal

-- the text of a rule is read by computing
pub returns-clause-there : goal.returns-clause-there
unfolding jiff_on_literals
returns-clause-there c = c.posix.ensures.succeeds.1 refl
