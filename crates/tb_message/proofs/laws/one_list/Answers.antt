use Rattle.tb_message.proofs.RecordLaws.{spellings_in-one}
use Rattle.tb_message.proofs.laws.one_list.Goals as goal

pub returns : goal.returns
returns c = spellings_in-one
