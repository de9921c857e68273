-- Each clause is a lemma on legal histories.
use Rattle.tb_history.proofs.IssuedLemmas.{IsLegal-issued}
use Rattle.tb_history.proofs.ConservedLemmas.{held-sum, paid-sum, pledged-covered, stranger-holds, stranger-paid}
use Rattle.tb_history.proofs.conserved.par_is_conserved.Goals as goal

pub returns-clause-holdings : goal.returns-clause-holdings
returns-clause-holdings c history cusip legal = held-sum history cusip legal

pub returns-clause-payments : goal.returns-clause-payments
returns-clause-payments c history cusip legal redeemed = paid-sum history cusip legal redeemed

pub returns-clause-covered : goal.returns-clause-covered
returns-clause-covered c history participant cusip legal = pledged-covered history participant cusip legal

pub returns-clause-strangers : goal.returns-clause-strangers
returns-clause-strangers c history stranger cusip legal unknown = (
  stranger-holds history stranger cusip legal unknown,
  stranger-paid history stranger cusip legal unknown,
)

pub returns-clause-limited : goal.returns-clause-limited
returns-clause-limited c history cusip legal = IsLegal-issued history cusip legal
