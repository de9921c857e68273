-- Conservation goes up one movement at a time.
use Rattle.tb_movements.proofs.ConservationLemmas.{IsConserved-legal}
use Rattle.tb_movements.proofs.laws.par_is_conserved.Goals as goal

pub returns : goal.returns
returns c = IsConserved-legal
