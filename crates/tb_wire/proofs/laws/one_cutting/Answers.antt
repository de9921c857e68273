use Rattle.tb_wire.proofs.CallerLemmas.{one-cutting}
use Rattle.tb_wire.proofs.laws.one_cutting.Goals as goal

pub returns : goal.returns
returns c = λ one other bytes rest left cuts none cuts' none'.
    one-cutting one other bytes rest left cuts none cuts' none'
