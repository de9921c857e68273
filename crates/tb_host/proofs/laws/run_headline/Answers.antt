use Rattle.tb_host.proofs.ScriptHeadlineLemmas.{RunHeadline-here}
use Rattle.tb_host.proofs.laws.run_headline.Goals as goal

pub returns : goal.returns
returns c = RunHeadline-here
