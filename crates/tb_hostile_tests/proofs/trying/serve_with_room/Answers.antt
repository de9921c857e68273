-- there are as many gates as the words plan workers
use Rattle.std.proofs.Common.{arith}
use Rattle.tb_host.proofs.PlanLemmas.{HasGates-planned}
use Rattle.tb_hostile_tests.proofs.trying.serve_with_room.Goals as goal

pub host_main-ended-requires-clause-gates : goal.host_main-ended-requires-clause-gates
host_main-ended-requires-clause-gates g c κs within = λ said are.
    HasGates-planned said c.in-Ok.plan _ (c.in-Ok.ensures.command said are)
    (omega (arith, c.len.ensures, c.if-len-plan.false))
