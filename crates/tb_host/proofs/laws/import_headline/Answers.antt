use Rattle.tb_host.proofs.ImportHeadlineLemmas.{ImportHeadline-here}
use Rattle.tb_host.proofs.laws.import_headline.Goals as goal

pub returns : goal.returns
returns c = ImportHeadline-here
