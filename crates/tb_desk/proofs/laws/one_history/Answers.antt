use Rattle.tb_desk.proofs.GroupLemmas.{StandsForHistory-one}
use Rattle.tb_desk.proofs.laws.one_history.Goals as goal

pub returns : goal.returns
returns c file one other legal also first second = StandsForHistory-one file one other legal also first second
