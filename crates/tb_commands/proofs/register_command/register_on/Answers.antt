use Rattle.std.proofs.Common.{sym, ap, ◌∙◌}
use Rattle.tb_commands.specs.Endings.{of_register}
use Rattle.tb_commands.proofs.RegisterLemmas.{filing-lacked}
use Rattle.tb_commands.proofs.register_command.register_on.Goals as goal

pub returns-clause-lacked : goal.returns-clause-lacked
returns-clause-lacked g c = λ sure is.
    c.in-Err.ensures.lacked sure
    (filing-lacked c.in-Err.fault (ap of_register (sym c.unfiled.ensures) ∙ is))
