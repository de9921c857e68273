use Rattle.tb_award.proofs.RateLemmas.{IsRateOfPart-one}
use Rattle.tb_award.proofs.laws.one_rate_of_part.Goals as goal

pub returns : goal.returns
returns c = IsRateOfPart-one
