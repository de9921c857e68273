-- Each clause is a lemma on legal histories.
use Rattle.tb_history.proofs.TradeLemmas.{purchase-exchanges, held-stays, balance-stays}
use Rattle.tb_history.proofs.funds.purchases_move_both.Goals as goal

pub returns-clause-exchange : goal.returns-clause-exchange
returns-clause-exchange c history entry seller number legal follows is =
    purchase-exchanges history entry seller number legal follows is

pub returns-clause-par_stays : goal.returns-clause-par_stays
returns-clause-par_stays c history entry participant cusip legal follows cash =
    held-stays history entry participant cusip legal follows cash

pub returns-clause-money_stays : goal.returns-clause-money_stays
returns-clause-money_stays c history entry participant legal follows cash bought =
    balance-stays history entry participant legal follows cash bought
