-- Each clause is a lemma on readings.
use Rattle.tb_history.proofs.ReadingLemmas.{AreResults-one, AreAwards-told, AreHoldingLines-one}
use Rattle.tb_history.proofs.ReadingLemmas.{ArePaidLines-one, IsReading-one}
use Rattle.tb_history.proofs.readings.readings_are_one.Goals as goal

pub returns-clause-results : goal.returns-clause-results
returns-clause-results c bidding add_on one other are are' = AreResults-one bidding add_on one other are are'

pub returns-clause-awards : goal.returns-clause-awards
returns-clause-awards c history a caller one other are are' = AreAwards-told history a caller one other are are'

pub returns-clause-holdings : goal.returns-clause-holdings
returns-clause-holdings c history caller one other are are' = AreHoldingLines-one history caller _ one other are are'

pub returns-clause-redemption : goal.returns-clause-redemption
returns-clause-redemption c history cusip one other are are' = ArePaidLines-one history cusip _ one other are are'

pub returns-clause-readings : goal.returns-clause-readings
returns-clause-readings c history caller query one other is is' = IsReading-one history caller query one other is is'
