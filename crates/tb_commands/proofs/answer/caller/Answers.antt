use Rattle.std.proofs.Common.{sym, ◌∙◌}
use Rattle.tb_history.specs.Roster.{registrations}
use Rattle.tb_commands.proofs.AnswerLemmas.{operator-caller}
use Rattle.tb_commands.proofs.answer.caller.Goals as goal

pub returns-in-Operator : goal.returns-in-Operator
returns-in-Operator g c =
    operator-caller (registrations c.args.desk.now.host.history) c.args.operator.now c.in-Operator.name c.args.key.now
    c.of_bytes.result c.in-Operator.is (sym c.eq.ensures ∙ c.if-eq.true) c.of_bytes.ensures
