-- Marks that are found alike have the same sums.
use Rattle.tb_movements.proofs.TellingLemmas.{HasFigures-told}
use Rattle.tb_movements.proofs.laws.figures_are_told.Goals as goal

pub returns : goal.returns
returns c = HasFigures-told
