-- Each clause is a lemma on legal histories.
use Rattle.tb_history.proofs.HistoryLemmas.{IsLegal-front, IsLegal-follows, IsLegal-ordered, running-seconds}
use Rattle.tb_history.proofs.HistoryLemmas.{repeated-push, position_of-push, standing-cancelled, standing-counted}
use Rattle.tb_history.proofs.LengthLemmas.{IsLegal-length}
use Rattle.tb_history.proofs.histories.histories_grow.Goals as goal

pub returns-clause-begins : goal.returns-clause-begins
returns-clause-begins c history more legal = IsLegal-front more history legal

pub returns-clause-follows : goal.returns-clause-follows
returns-clause-follows c history more entry legal = IsLegal-follows more history entry legal

pub returns-clause-moments : goal.returns-clause-moments
returns-clause-moments c history legal = (IsLegal-ordered history legal).moments

pub returns-clause-running : goal.returns-clause-running
returns-clause-running c history moment = running-seconds history moment

pub returns-clause-numbers : goal.returns-clause-numbers
returns-clause-numbers c history legal = (IsLegal-ordered history legal).numbers

pub returns-clause-repeats : goal.returns-clause-repeats
returns-clause-repeats c history more entry moment legal = repeated-push history more entry moment legal

pub returns-clause-length : goal.returns-clause-length
returns-clause-length c history legal = IsLegal-length history legal

pub returns-clause-positions : goal.returns-clause-positions
returns-clause-positions c reported report = position_of-push reported report

pub returns-clause-cancelled : goal.returns-clause-cancelled
returns-clause-cancelled c all cancelled reported auction bidder bid dead =
    standing-cancelled all cancelled reported auction bidder bid dead

pub returns-clause-counted : goal.returns-clause-counted
returns-clause-counted c all cancelled reported bid = standing-counted all cancelled reported bid
