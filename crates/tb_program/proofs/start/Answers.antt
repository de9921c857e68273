-- There are as many gates as the words plan workers.
use Rattle.std.proofs.Common.{arith}
use Rattle.tb_host.proofs.PlanLemmas.{HasGates-planned}
use Rattle.tb_program.proofs.start.Goals as goal

-- of a command that serves, as many as were made
pub without_register-requires-after_bounds : goal.without_register-requires-after_bounds
without_register-requires-after_bounds g c κs within = λ said are.
    HasGates-planned said c.in-Ok.plan _ (c.in-Ok.ensures.command said are) c.in-Ok-gates.ensures

-- of another that uses the disk, none
pub without_register-requires-then-plan-2-after_bounds : goal.without_register-requires-then-plan-2-after_bounds
without_register-requires-then-plan-2-after_bounds g c κs within = λ said are.
    HasGates-planned said c.in-Ok.plan _ (c.in-Ok.ensures.command said are)
    (omega (arith, c.new-none.ensures.len, c.if-plan-gt0.false))

-- and of one that uses none, none
pub without_register-requires-else-plan-2-after_bounds : goal.without_register-requires-else-plan-2-after_bounds
without_register-requires-else-plan-2-after_bounds g c κs within = λ said are.
    HasGates-planned said c.in-Ok.plan _ (c.in-Ok.ensures.command said are)
    (omega (arith, c.new-none.ensures.len, c.if-plan-gt0.false))

-- of the register, none
pub top_call-status-requires-after_bounds : goal.top_call-status-requires-after_bounds
top_call-status-requires-after_bounds g c κs within = λ said are.
    HasGates-planned said c.in-Ok.plan _ (c.in-Ok.ensures.command said are)
    (omega (arith, c.new-none.ensures.len, c.if-plan-gt0.false))
