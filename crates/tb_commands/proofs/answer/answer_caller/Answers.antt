use Rattle.std.proofs.Common.{ap, subst, ◌∙◌, refl}
use Rattle.std.specs.Prelude.{Ok, Err}
use Rattle.tb_message.specs.Requests.{AnswerOf}
use Rattle.tb_message.specs.declared.query.ReadFault.TheVariants as fault
use Rattle.tb_message.specs.declared.query.Request.TheVariants as request
use Rattle.tb_terms.specs.declared.refusal.Refusal.TheVariants as refusal
use Rattle.tb_terms.specs.declared.refusal.Field.{Field}
use Rattle.tb_commands.specs.Replies.{refused}
use Rattle.tb_commands.specs.Standings.{standing}
use Rattle.tb_commands.proofs.AnswerLemmas.{answered-fault, answered-query}
use Rattle.tb_commands.proofs.answer.answer_caller.Goals as goal

pub returns-in_ok-turned-in-Ok-Message-clause-answered : goal.returns-in_ok-turned-in-Ok-Message-clause-answered
returns-in_ok-turned-in-Ok-Message-clause-answered g c = (
  Ok (request.Message c.in-Ok-Message.number c.in-Ok-Message.message),
  subst (AnswerOf c.args.json.now) (c.in-Ok-Message.is ∙ ap Ok c.in-Ok-Message.field-0-is)
      c.read.ensures.answer,
  (c.in_ok-turned-in-Ok-Message.turned, c.in_ok-turned-in-Ok-Message.ensures.turn, c.of_turn.ensures),
)

pub returns-in-Ok-Query-clause-answered : goal.returns-in-Ok-Query-clause-answered
returns-in-Ok-Query-clause-answered g c =
    answered-query (standing (g.D.Disk.disk c.args.desk.now.disk) c.args.desk.now) c.args.caller.now c.args.moment
    c.args.json.now c.in-Ok-Query.query c.tell.result
    (subst (AnswerOf c.args.json.now) (c.in-Ok-Query.is ∙ ap Ok c.in-Ok-Query.field-0-is) c.read.ensures.answer)
    c.tell.ensures

pub returns-in-Err-BadJson-clause-answered : goal.returns-in-Err-BadJson-clause-answered
returns-in-Err-BadJson-clause-answered g c =
    answered-fault (standing (g.D.Disk.disk c.args.desk.now.disk) c.args.desk.now) c.args.caller.now c.args.moment
    c.args.json.now _ fault.BadJson refusal.BadJson
    (subst (AnswerOf c.args.json.now) (c.in-Err-BadJson.is ∙ ap Err c.in-Err-BadJson.field-0-is)
    c.read.ensures.answer) refl c.refused.ensures

pub returns-in-Err-BadShape-clause-answered : goal.returns-in-Err-BadShape-clause-answered
returns-in-Err-BadShape-clause-answered g c =
    answered-fault (standing (g.D.Disk.disk c.args.desk.now.disk) c.args.desk.now) c.args.caller.now c.args.moment
    c.args.json.now _ (fault.BadShape c.in-Err-BadShape.member) (refusal.BadShape c.in-Err-BadShape.member)
    (subst (AnswerOf c.args.json.now) (c.in-Err-BadShape.is ∙ ap Err c.in-Err-BadShape.field-0-is)
    c.read.ensures.answer) refl
    (c.refused-in-Err-BadShape.ensures ∙ ap (λ (m : Field). refused (refusal.BadShape m)) c.in-Err-BadShape.member-is)
