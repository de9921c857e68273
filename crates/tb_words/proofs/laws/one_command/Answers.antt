use Rattle.tb_words.proofs.OneCommandLemmas.{one_command}
use Rattle.tb_words.proofs.laws.one_command.Goals as goal

pub returns : goal.returns
returns c = one_command
