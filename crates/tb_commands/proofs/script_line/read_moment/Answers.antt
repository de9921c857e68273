use Rattle.std.proofs.Common.{subst, sym}
use Rattle.std.specs.Str.{IsUtf8}
use Rattle.tb_commands.proofs.ScriptLineLemmas.{IsUtf8-moment, no-moment}
use Rattle.tb_commands.proofs.script_line.read_moment.Goals as goal

pub returns-in-Err-clause-none : goal.returns-in-Err-clause-none
returns-in-Err-clause-none c = λ moment is. c.in-Err.ensures.cases.0 (subst IsUtf8 (sym is) (IsUtf8-moment moment))

pub returns-in-Ok-clause-none : goal.returns-in-Ok-clause-none
returns-in-Ok-clause-none c =
    no-moment c.args.text.now c.read.result (rw c.in-Ok.ensures.cases.0 at c.read.ensures.none)
