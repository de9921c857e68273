-- The caller of a key.
use Rattle.std.proofs.Common.{sym, ◌∙◌}
use Rattle.tb_session.proofs.CallerLemmas.{operator-caller}
use Rattle.tb_session.proofs.room.Room.caller.Goals as goal

pub returns-in-Operator : goal.returns-in-Operator
returns-in-Operator g c =
    operator-caller c.args.self.now.desk.host.history c.args.self.now.operator c.in-Operator.name c.args.key.now
    c.of_bytes.result c.in-Operator.is (sym c.eq.ensures ∙ c.if-eq.true) c.of_bytes.ensures
