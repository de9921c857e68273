-- There is nothing yet.
use Rattle.tb_cashbook.proofs.CashbookLemmas.{tells-none}
use Rattle.tb_cashbook.proofs.entering.no_funds.Goals as goal

pub returns : goal.returns
returns c = tells-none c.new.result c.new.ensures.balances c.new.ensures.offers
