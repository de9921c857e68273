use Rattle.tb_message.proofs.OneRequest.{one_asked}
use Rattle.tb_message.proofs.laws.one_request.Goals as goal

pub returns : goal.returns
returns c = one_asked
