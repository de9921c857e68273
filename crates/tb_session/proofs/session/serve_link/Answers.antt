-- A link on which there was no memory to begin.
use Rattle.std.proofs.Common.{[], arith}
use Rattle.tb_lock.specs.Passes.{view}
use Rattle.tb_session.specs.declared.end.End.TheVariants as end
use Rattle.tb_session.proofs.SessionLemmas.{serves-idle}
use Rattle.tb_session.proofs.HearLemmas.{lacks-at_once}
use Rattle.tb_session.proofs.session.serve_link.Goals as goal

pub returns-in-Err-clause-served : goal.returns-in-Err-clause-served
returns-in-Err-clause-served g c =
    serves-idle 0 [] (view c.args.pass.now) _ _ end.OutOfMemory (omega arith)
    (lacks-at_once _ _ c.refuse_for_memory.ensures.tries)
