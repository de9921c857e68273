use Rattle.tb_commands.proofs.OneRunLemmas.{run-one}
use Rattle.tb_commands.proofs.laws.one_run.Goals as goal

pub returns-clause-replies : goal.returns-clause-replies
returns-clause-replies c = λ operator start lines one other last last' run run'.
    (run-one operator start lines one other last last' (record { sure = run.sure; counting = run.counting })
    run.run run'.run
    run.no_fault run'.no_fault).replies

pub returns-clause-last : goal.returns-clause-last
returns-clause-last c = λ operator start lines one other last last' run run'.
    (run-one operator start lines one other last last' (record { sure = run.sure; counting = run.counting })
    run.run run'.run
    run.no_fault run'.no_fault).stands
