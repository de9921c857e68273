-- The offer that is found is open.
use Rattle.tb_funds_tests.proofs.tests.is_open.Goals as goal

pub returns-in-Open : goal.returns-in-Open
returns-in-Open c = λ is. c.in-Some.ensures.there c.in-Open.is
