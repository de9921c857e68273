-- The answer is the host machine's.
use Rattle.std.proofs.Common.{◌≡◌, ◌↔◌, false, Some, Err, IfOk, subst}
use Rattle.tb_core.specs.declared.refused.QueryRefused.TheVariants as answer
use Rattle.tb_history.specs.Answer.{query_refusal}
use Rattle.tb_history.specs.OwnPart.{own_part}
use Rattle.tb_history.specs.Readings.{IsReading}
use Rattle.tb_history.specs.Roster.{is_published}
use Rattle.tb_desk.specs.Desks.{DeskView}
use Rattle.tb_desk.proofs.desk.Desk.read.Goals as goal

pub returns-clause-refused : goal.returns-clause-refused
returns-clause-refused g c refusal =
    subst (λ (view : DeskView g.row.D.Denot). (c.read.result ≡ Err (answer.Refused refusal))
    ↔ (query_refusal view.host.history c.args.submitter.now c.args.query.now ≡ Some refusal)) c.self.view_is
    (c.read.ensures.refused refusal)

pub returns-clause-sealed_refusal : goal.returns-clause-sealed_refusal
returns-clause-sealed_refusal g c refusal =
    subst (λ (view : DeskView g.row.D.Denot). (c.read.result ≡ Err (answer.Refused refusal))
    ↔ (query_refusal (own_part c.args.submitter.now view.host.history) c.args.submitter.now c.args.query.now
    ≡ Some refusal))
    c.self.view_is (c.read.ensures.sealed_refusal refusal)

pub returns-clause-sealed_reading : goal.returns-clause-sealed_reading
returns-clause-sealed_reading g c auction asks =
    subst (λ (view : DeskView g.row.D.Denot). is_published view.host.history auction ≡ false
    → IfOk c.read.result (λ reading. IsReading (own_part c.args.submitter.now view.host.history) c.args.submitter.now
    c.args.query.now reading))
    c.self.view_is (c.read.ensures.sealed_reading auction asks)
