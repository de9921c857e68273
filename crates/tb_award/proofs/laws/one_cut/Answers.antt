use Rattle.tb_award.proofs.CutLemmas.{IsCut-one}
use Rattle.tb_award.proofs.laws.one_cut.Goals as goal

pub returns : goal.returns
returns c recognised sought stop percent other_stop other_percent is is' =
    IsCut-one recognised sought stop other_stop percent other_percent is is'
