use Rattle.tb_wire.proofs.FrontLaws.{front-more}
use Rattle.tb_wire.proofs.laws.stays.Goals as goal

pub returns : goal.returns
returns c = λ bytes more front is there. front-more bytes more front is there
