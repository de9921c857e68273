use Rattle.std.proofs.Common.{ap}
use Rattle.tb_commands.specs.CheckRun.{line_of}
use Rattle.tb_commands.proofs.CheckLemmas.{told-here}
use Rattle.tb_commands.proofs.check_command.tell_remains.Goals as goal

pub returns-in-Ok-Nothing-clause-told : goal.returns-in-Ok-Nothing-clause-told
returns-in-Ok-Nothing-clause-told g c =
    told-here (g.D.Disk.disk c.args.desk.now.disk).past c.in-Ok-Nothing.field-0 _ c.write_line.result _ _
    c.in-Ok-Nothing.ensures.finds (ap line_of c.in-Ok-Nothing.field-0-is) c.write_line.ensures

pub returns-in-Ok-TornAppend-clause-told : goal.returns-in-Ok-TornAppend-clause-told
returns-in-Ok-TornAppend-clause-told g c =
    told-here (g.D.Disk.disk c.args.desk.now.disk).past c.in-Ok-TornAppend.field-0 _
    c.write_line-in-Ok-TornAppend.result _ _ c.in-Ok-TornAppend.ensures.finds
    (ap line_of c.in-Ok-TornAppend.field-0-is) c.write_line-in-Ok-TornAppend.ensures
