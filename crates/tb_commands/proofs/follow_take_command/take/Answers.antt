-- What is in doubt is what the follower left so.
use Rattle.std.proofs.Common.{ap}
use Rattle.std.specs.Prelude.{Err}
use Rattle.tb_commands.proofs.follow_take_command.take.Goals as goal

pub returns-in-Err-DiskFault-clause-in_doubt : goal.returns-in-Err-DiskFault-clause-in_doubt
returns-in-Err-DiskFault-clause-in_doubt g c = λ is.
    c.in-Err-DiskFault.ensures.in_doubt (ap Err c.in-Err-DiskFault.field-0-is)
