use Rattle.tb_wire.proofs.FrontLaws.{front-used, front-told}
use Rattle.tb_wire.proofs.laws.uses.Goals as goal

pub returns-clause-used : goal.returns-clause-used
returns-clause-used c = λ bytes request is. (front-used bytes request is).used

pub returns-clause-some : goal.returns-clause-some
returns-clause-some c = λ bytes request is. (front-used bytes request is).some

pub returns-clause-body : goal.returns-clause-body
returns-clause-body c = λ bytes request is. (front-used bytes request is).body

pub returns-clause-told : goal.returns-clause-told
returns-clause-told c = λ bytes code is. front-told bytes code is
