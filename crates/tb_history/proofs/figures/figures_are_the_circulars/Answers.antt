-- Each clause is a lemma on biddings.
use Rattle.tb_history.proofs.FigureLemmas.{par_of-bidding}
use Rattle.tb_history.proofs.CutFigureLemmas.{HasPar-bidding, IsCut-figures}
use Rattle.tb_history.proofs.AwardFigureLemmas.{awarded_to-bidding}
use Rattle.tb_history.proofs.CloseLemmas.{recognised-none_is}
use Rattle.tb_history.proofs.figures.figures_are_the_circulars.Goals as goal

pub returns-clause-par : goal.returns-clause-par
returns-clause-par c bidding recognised steps distinct are within =
    par_of-bidding bidding recognised steps distinct are within

pub returns-clause-none : goal.returns-clause-none
returns-clause-none c bidding recognised distinct are = recognised-none_is bidding recognised distinct are

pub returns-clause-cut : goal.returns-clause-cut
returns-clause-cut c bidding recognised stop percent distinct are some cut =
    IsCut-figures bidding recognised stop percent (HasPar-bidding bidding recognised distinct are) some cut

pub returns-clause-awards : goal.returns-clause-awards
returns-clause-awards c bidding recognised awards number d distinct are awards_are within =
    awarded_to-bidding bidding recognised awards number d distinct are awards_are within
