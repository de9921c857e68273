use Rattle.std.proofs.Common.{length}
use Rattle.tb_wire.specs.Front.{seen}
use Rattle.tb_wire.proofs.FrontLaws.{one-front}
use Rattle.tb_wire.proofs.laws.one_front.Goals as goal

pub returns : goal.returns
returns c = λ bytes one other this that. one-front (seen bytes) (length bytes) one other this that
