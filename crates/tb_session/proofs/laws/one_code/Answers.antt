-- A code is of one call, and a list of records of one history.
use Rattle.tb_session.proofs.OneCode.{code-one, spelled-one}
use Rattle.tb_session.proofs.OpeningLemmas.{opening-one}
use Rattle.tb_session.proofs.laws.one_code.Goals as goal

pub returns-clause-calls : goal.returns-clause-calls
returns-clause-calls c = code-one

pub returns-clause-histories : goal.returns-clause-histories
returns-clause-histories c = spelled-one

pub returns-clause-openings : goal.returns-clause-openings
returns-clause-openings c = opening-one
