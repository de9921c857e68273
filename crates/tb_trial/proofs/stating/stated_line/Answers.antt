-- The line has the numbers of the bid.
use Rattle.std.proofs.Common.{refl}
use Rattle.tb_trial.proofs.StatedLemmas.{line_of-stated}
use Rattle.tb_trial.proofs.stating.stated_line.Goals as goal

pub returns : goal.returns
returns c = line_of-stated c.args.number c.args.drawn _ _ _ refl refl refl
