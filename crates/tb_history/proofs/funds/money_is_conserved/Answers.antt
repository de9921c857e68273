-- Each clause is a lemma on legal histories.
use Rattle.tb_history.proofs.FundsLemmas.{IsLegal-funded, balances-sum, stranger-balance, deposits-most}
use Rattle.tb_history.proofs.funds.money_is_conserved.Goals as goal

pub returns-clause-covered : goal.returns-clause-covered
returns-clause-covered c history participant legal = IsLegal-funded history legal participant

pub returns-clause-balances : goal.returns-clause-balances
returns-clause-balances c history legal = balances-sum history legal

pub returns-clause-strangers : goal.returns-clause-strangers
returns-clause-strangers c history stranger legal unknown = stranger-balance history stranger legal unknown

pub returns-clause-limited : goal.returns-clause-limited
returns-clause-limited c history legal = deposits-most history legal
