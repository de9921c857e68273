use Rattle.tb_disk.proofs.ImageLemmas.{contents-left}
use Rattle.tb_disk.proofs.laws.contents_may_be_left.Goals as goal

pub returns : goal.returns
returns c = contents-left
