use Rattle.tb_wire.proofs.CallerLemmas.{cuts-more}
use Rattle.tb_wire.proofs.laws.cuts_stay.Goals as goal

pub returns : goal.returns
returns c = λ requests bytes more rest cuts. cuts-more requests bytes more rest cuts
