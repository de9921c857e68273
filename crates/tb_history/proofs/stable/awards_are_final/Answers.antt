-- Each clause is a lemma on legal histories.
use Rattle.std.proofs.Common.{◌++◌}
use Rattle.tb_history.proofs.HistoryLemmas.{IsLegal-front}
use Rattle.tb_history.proofs.ClosedLemmas.{announced-more}
use Rattle.tb_history.specs.Holdings.{bidding_in}
use Rattle.tb_history.proofs.StableLemmas.{AreSame-more, closed-announced, closing-come}
use Rattle.tb_history.proofs.StableLemmas.{stop_of-alike, percent_of-alike}
use Rattle.tb_history.proofs.stable.awards_are_final.Goals as goal

pub returns-clause-closed : goal.returns-clause-closed
returns-clause-closed c history auction a legal published found = closing-come history auction a legal published found

pub returns-clause-announced : goal.returns-clause-announced
returns-clause-announced c history more auction a found = announced-more more history auction a found

pub returns-clause-awards : goal.returns-clause-awards
returns-clause-awards c history more auction bidder a legal published found =
    let closed = closed-announced history auction a (IsLegal-front more history legal) published found in
    (AreSame-more more history a legal closed).awards bidder

pub returns-clause-add_on : goal.returns-clause-add_on
returns-clause-add_on c history more auction a legal published found =
    let closed = closed-announced history auction a (IsLegal-front more history legal) published found in
    (AreSame-more more history a legal closed).add_on

pub returns-clause-cut : goal.returns-clause-cut
returns-clause-cut c history more auction a legal published found =
    let closed = closed-announced history auction a (IsLegal-front more history legal) published found in
    let same = AreSame-more more history a legal closed in (
      stop_of-alike (bidding_in (history ++ more) a) (bidding_in history a) same.alike,
      percent_of-alike
          (bidding_in (history ++ more) a) (bidding_in history a) same.alike,
      same.live,
    )
