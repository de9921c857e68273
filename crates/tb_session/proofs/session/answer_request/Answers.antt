-- A request, by whether it became a call.
use Rattle.std.proofs.Common.{sym, ◌∙◌, subst}
use Rattle.tb_lock.specs.Passes.{view}
use Rattle.tb_session.specs.Serving.{Answers}
use Rattle.tb_session.proofs.AnswerLemmas.{answers-refused, answers-lacked, answers-called}
use Rattle.tb_session.proofs.session.answer_request.Goals as goal

pub returns-in-Err-clause-answers : goal.returns-in-Err-clause-answers
returns-in-Err-clause-answers g c =
    let v = view c.args.pass.now in
    subst (λ said. Answers v v c.args.request.now c.args.waiting.now said) (sym c.refused.ensures)
    (answers-refused v c.args.request.now c.args.waiting.now c.in-Err.refusal (sym c.find_key.ensures ∙ c.in-Err.is))

pub returns-in-Some-clause-answers : goal.returns-in-Some-clause-answers
returns-in-Some-clause-answers g c =
    answers-called _ _ c.args.request.now c.args.waiting.now c.in-Ok.key c.in-Some.asked _
    (sym c.find_key.ensures ∙ c.in-Ok.is) c.in-Some.ensures.asks c.perform_in_turn.ensures.gains

pub returns-in-None-clause-answers : goal.returns-in-None-clause-answers
returns-in-None-clause-answers g c =
    answers-lacked (view c.args.pass.now) c.args.request.now c.args.waiting.now c.in-Ok.key
    (sym c.find_key.ensures ∙ c.in-Ok.is) c.in-None.ensures.lacks
