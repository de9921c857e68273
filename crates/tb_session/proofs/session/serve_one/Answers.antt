-- One request, by how its reply was sent.
use Rattle.std.proofs.Common.{◌≡◌, ℕ, List, sym, ◌∙◌, subst}
use Rattle.tb_gates.specs.Links.{link_of}
use Rattle.tb_lock.specs.declared.view.View.{View}
use Rattle.tb_lock.specs.Passes.{view}
use Rattle.tb_wire.specs.declared.cutting.HttpRequest.{HttpRequest}
use Rattle.tb_session.specs.declared.answer.Answer.{Answer}
use Rattle.tb_session.specs.Replies.{reply_text}
use Rattle.tb_session.specs.Serving.{Answers, ServesOn}
use Rattle.tb_session.specs.Session.{Wrote}
use Rattle.tb_session.proofs.SessionLemmas.{one-on, one-asked, one-turns, one-unwritten, one-lacking}
use Rattle.tb_session.proofs.WriteLemmas.{unsent-fails, unsent-lacks, unsent-may}
use Rattle.tb_session.proofs.session.serve_one.Goals as goal

-- the request at the front of the same bytes was answered
answers-at : (v0 v1 : View) (r : HttpRequest) (seen waiting : List ℕ) (said : Answer) → seen ≡ waiting
    → Answers v0 v1 r seen said
    → Answers v0 v1 r waiting said
answers-at v0 v1 r seen waiting said same answers = subst (λ (l : List ℕ). Answers v0 v1 r l said) same answers

pub used-requires : goal.used-requires
used-requires g c = c.uses.ensures.used c.args.inbox.now c.args.request.now c.requires.front

pub returns-in-Ok-clause-ended : goal.returns-in-Ok-clause-ended
returns-in-Ok-clause-ended g c =
    let answers = answers-at _ _ _ _ _ _ c.waiting.ensures.waiting c.answer_request-answer.ensures.answers in
    one-asked c.args.turns c.args.inbox.now _ _ _ _ c.args.request.now c.answer_request-answer.result answers
    c.requires.front c.requires.few c.if-request.true c.closes-close.result c.closes-close.ensures
    c.in-Ok.ensures.sends.0 c.in-Ok.ensures.sends.1

pub returns-in-Ok-2-clause-ended : goal.returns-in-Ok-2-clause-ended
returns-in-Ok-2-clause-ended g c =
    let answers = answers-at _ _ _ _ _ _ c.waiting.ensures.waiting c.answer_request-answer.ensures.answers in
    one-turns c.args.turns c.args.inbox.now _ _ _ _ c.args.request.now c.answer_request-answer.result answers
    c.requires.front c.requires.few c.if-request.false c.closes-close.result c.closes-close.ensures c.if-close.true
    c.in-Ok-2.ensures.sends.0 c.in-Ok-2.ensures.sends.1

pub returns-in-Ok-3-clause-on : goal.returns-in-Ok-3-clause-on
returns-in-Ok-3-clause-on g c =
    let a = link_of g.K.Source.source g.K.Sink.sink c.args.link.now in
    let b = link_of g.K.Source.source g.K.Sink.sink c.send.new.link in
    let said = c.answer_request-answer.result in
    let answers = answers-at _ _ _ _ _ _ c.waiting.ensures.waiting c.answer_request-answer.ensures.answers in
    let wrote = subst (λ k. Wrote a b (reply_text said c.args.request.now.target k)) c.if-close.false
    c.in-Ok-3.ensures.sends.0 in
    subst
    (λ n. ServesOn c.args.turns 1 c.args.inbox.now (view c.args.pass.now) (view c.answer_request-answer.new.pass) a b n)
    (sym c.used.ensures)
    (one-on c.args.turns c.args.inbox.now (view c.args.pass.now) (view c.answer_request-answer.new.pass) a b
    c.args.request.now said answers c.requires.front c.requires.few (sym c.closes-close.ensures ∙ c.if-close.false)
    wrote c.in-Ok-3.ensures.sends.1)

pub returns-in-Err-WriteFault-clause-ended : goal.returns-in-Err-WriteFault-clause-ended
returns-in-Err-WriteFault-clause-ended g c =
    let arm = c.in-Err-WriteFault in
    let answers = answers-at _ _ _ _ _ _ c.waiting.ensures.waiting c.answer_request-answer.ensures.answers in
    let unsent = unsent-fails _ _ c.answer_request-answer.result _ arm.field-0 arm.ensures.sends arm.field-0-is in
    one-unwritten c.args.turns c.args.inbox.now _ _ _ _ c.args.request.now c.answer_request-answer.result answers
    c.requires.front c.requires.few c.closes-close.result c.closes-close.ensures unsent.0 unsent.1

pub returns-clause-ended : goal.returns-clause-ended
returns-clause-ended g c =
    let arm = c.in-Err-OutOfMemory in
    let answers = answers-at _ _ _ _ _ _ c.waiting.ensures.waiting c.answer_request-answer.ensures.answers in
    one-lacking c.args.turns c.args.inbox.now _ _ _ _ c.args.request.now c.answer_request-answer.result answers
    c.requires.front c.requires.few
    (unsent-may _ _ c.answer_request-answer.result _ arm.field-0 arm.ensures.sends arm.field-0-is)
    (unsent-lacks _ _ c.answer_request-answer.result _ arm.field-0 arm.ensures.sends _ _ arm.field-0-is
    c.refuse_for_memory.ensures.tries)
