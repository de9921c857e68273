use Rattle.tb_wire.proofs.FrontLaws.{front-waits}
use Rattle.tb_wire.proofs.laws.waits.Goals as goal

pub returns : goal.returns
returns c = λ bytes is. front-waits bytes is
