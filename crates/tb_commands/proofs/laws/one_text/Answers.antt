use Rattle.tb_commands.proofs.OneTextLemmas.{IsBookRun-one}
use Rattle.tb_commands.proofs.laws.one_text.Goals as goal

pub returns : goal.returns
returns c = IsBookRun-one
