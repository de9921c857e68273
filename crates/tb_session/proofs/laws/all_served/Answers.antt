-- By the ends of links.
use Rattle.tb_session.proofs.ServedLemmas.{cuts-requests, session-answers, session-leaves}
use Rattle.tb_session.proofs.laws.all_served.Goals as goal

pub returns : goal.returns
returns c = record {
  cut = λ fixed turns waiting old new session is. cuts-requests _ _ _ is.cuts;
  left = λ fixed turns waiting old new session is none. session-leaves fixed turns waiting old new session is none;
  answered = λ fixed turns waiting old new session is. session-answers fixed turns waiting old new session is;
}
