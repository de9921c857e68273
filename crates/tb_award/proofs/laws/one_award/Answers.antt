use Rattle.tb_award.proofs.AwardLemmas.{AreAwards-one, IsAward-one}
use Rattle.tb_award.proofs.laws.one_award.Goals as goal

pub returns-clause-award : goal.returns-clause-award
returns-clause-award c = IsAward-one

pub returns-clause-awards : goal.returns-clause-awards
returns-clause-awards c = AreAwards-one
