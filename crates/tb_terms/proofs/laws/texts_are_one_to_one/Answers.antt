use Rattle.tb_terms.proofs.TextFacts.{day_text-one, minute_text-one}
use Rattle.tb_terms.proofs.laws.texts_are_one_to_one.Goals as goal

pub returns-clause-day : goal.returns-clause-day
returns-clause-day c = day_text-one

pub returns-clause-minute : goal.returns-clause-minute
returns-clause-minute c = minute_text-one
