use Rattle.std.proofs.Common.{ap, ◌∙◌}
use Rattle.tb_words.proofs.OneCommandLemmas.{one_command}
use Rattle.tb_host.specs.Commands.{plan_of}
use Rattle.tb_host.proofs.plan_words.plan.Goals as goal

pub returns-in-Ok-clause-command : goal.returns-in-Ok-clause-command
returns-in-Ok-clause-command c = λ said are.
    c.planned.ensures.plan ∙ ap plan_of (one_command _ c.in-Ok.command said c.in-Ok.ensures.command are)
