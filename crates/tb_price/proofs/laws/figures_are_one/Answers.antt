use Rattle.tb_price.proofs.OneLemmas.{IsPrice-one, IsPayment-one, IsShortRate-one, IsLongRate-one}
use Rattle.tb_price.proofs.laws.figures_are_one.Goals as goal

pub returns-clause-price : goal.returns-clause-price
returns-clause-price c = IsPrice-one

pub returns-clause-payment : goal.returns-clause-payment
returns-clause-payment c = IsPayment-one

pub returns-clause-short : goal.returns-clause-short
returns-clause-short c = IsShortRate-one

pub returns-clause-long : goal.returns-clause-long
returns-clause-long c = IsLongRate-one
