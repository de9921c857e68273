use Rattle.tb_award.proofs.AwardLemmas.{AreAwards-short, AreAwards-within, AreClose-awards, IsProrated-close}
use Rattle.tb_award.proofs.laws.awards_are_close.Goals as goal

pub returns-clause-share : goal.returns-clause-share
returns-clause-share c = IsProrated-close

pub returns-clause-reaching : goal.returns-clause-reaching
returns-clause-reaching c = AreClose-awards

pub returns-clause-short : goal.returns-clause-short
returns-clause-short c = AreAwards-short

pub returns-clause-within : goal.returns-clause-within
returns-clause-within c recognised awards stop percent small hundreds are =
    AreAwards-within stop percent recognised awards small hundreds are
