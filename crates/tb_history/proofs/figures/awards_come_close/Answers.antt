-- Each clause is a lemma on legal histories.
use Rattle.tb_history.proofs.CloseLemmas.{IsLegal-distinct, IsLegal-sought, IsLegal-close}
use Rattle.tb_history.proofs.figures.awards_come_close.Goals as goal

pub returns-clause-bidders : goal.returns-clause-bidders
returns-clause-bidders c history legal = IsLegal-distinct history legal

pub returns-clause-sought : goal.returns-clause-sought
returns-clause-sought c history auction a legal found = IsLegal-sought history auction a legal found

pub returns-clause-close : goal.returns-clause-close
returns-clause-close c history auction a recognised awards stop percent legal found are cut awards_are =
    IsLegal-close history auction a recognised awards stop percent legal found are cut awards_are
