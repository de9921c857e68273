use Rattle.tb_replica_tests.proofs.tests.step.Goals as goal

-- It goes on after a call that met no fault of the disk: nothing is in doubt.
pub invariant_of-result : goal.invariant_of-result
invariant_of-result c = record { sure = c.take.ensures.sure (λ wrong. cc (c.in-Ok.is, wrong)) }
