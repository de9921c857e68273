-- One reply more, or the write fails.
use Rattle.std.proofs.Common.{◌+◌, ◌∷◌, drop, ap, sym, ◌∙◌, false}
use Rattle.tb_gates.specs.Links.{link_of}
use Rattle.tb_wire.specs.declared.cutting.Target.TheVariants as target
use Rattle.tb_session.specs.Groups.{answer_at, answers_at}
use Rattle.tb_session.specs.Replies.{reply_text}
use Rattle.tb_session.proofs.RowLemmas.{answers-from, plain-at, plain-fails, replies-fail, replies-on}
use Rattle.tb_session.proofs.session.reply_row.Goals as goal

pub returns-in-Err : goal.returns-in-Err
returns-in-Err g c =
    let a = link_of g.K.Source.source g.K.Sink.sink c.args.link.now in
    let b = link_of g.K.Source.source g.K.Sink.sink c.loop-place.link in
    let last = link_of g.K.Source.source g.K.Sink.sink c.send.new.link in
    let place = c.loop-place.place in
    let said = c.answer_at-answer.result in
    let answers = answers_at c.args.said c.args.verdicts.now c.args.count in
    let is = answers-from c.args.said c.args.verdicts.now c.args.count place c.index-verdicts-place.result
    c.loop-place-test.true c.requires.counted c.index-verdicts-place.is
    ∙ (ap (λ p. answer_at c.args.said p ∷ drop (place + 1) answers) c.index-verdicts-place.is
    ∙ ap (λ x. x ∷ drop (place + 1) answers) (sym c.answer_at-answer.ensures)) in
    replies-fail a b last answers place said (drop (place + 1) answers) is c.loop-place.invariant
    (plain-fails b last said (reply_text said target.Messages false) c.in-Err.field-0
    (plain-at answers place said (drop (place + 1) answers) is c.requires.plain) c.in-Err.ensures.sends)

pub loop-place-preserved : goal.loop-place-preserved
loop-place-preserved g c =
    let a = link_of g.K.Source.source g.K.Sink.sink c.args.link.now in
    let b = link_of g.K.Source.source g.K.Sink.sink c.loop-place.link in
    let last = link_of g.K.Source.source g.K.Sink.sink c.send.new.link in
    let place = c.loop-place.place in
    let said = c.answer_at-answer.result in
    let answers = answers_at c.args.said c.args.verdicts.now c.args.count in
    let is = answers-from c.args.said c.args.verdicts.now c.args.count place c.index-verdicts-place.result
    c.loop-place-test.true c.requires.counted c.index-verdicts-place.is
    ∙ (ap (λ p. answer_at c.args.said p ∷ drop (place + 1) answers) c.index-verdicts-place.is
    ∙ ap (λ x. x ∷ drop (place + 1) answers) (sym c.answer_at-answer.ensures)) in
    replies-on a b last answers place said (drop (place + 1) answers) is c.loop-place.invariant
    c.in-Ok.ensures.sends.0
