use Rattle.std.proofs.Common.{ap, sym, subst, ◌∙◌}
use Rattle.std.specs.Prelude.{Option, Err}
use Rattle.tb_terms.specs.declared.refusal.Refusal.{Refusal}
use Rattle.tb_history.specs.Answer.{query_refusal}
use Rattle.tb_commands.specs.Answers.{reply_text}
use Rattle.tb_commands.specs.Replies.{IsTold, refused}
use Rattle.tb_commands.proofs.AnswerLemmas.{told-reading}
use Rattle.tb_report.proofs.PrintableLemmas.{IsPrintable-reading}
use Rattle.tb_commands.proofs.answer.tell.Goals as goal

pub of_reading-requires : goal.of_reading-requires
of_reading-requires g c =
    IsPrintable-reading c.args.desk.now.host.history c.args.caller.now c.args.query.now c.in-Ok.reading
    c.entries.ensures.legal
    c.in-Ok.ensures.reading

pub returns-in-Ok : goal.returns-in-Ok
returns-in-Ok g c =
    told-reading c.args.desk.now.host.history c.args.caller.now c.args.query.now
    (query_refusal c.args.desk.now.host.history c.args.caller.now c.args.query.now) c.in-Ok.reading c.of_reading.result
    (λ refusal is. let told = (c.read.ensures.refused refusal).1 is in absurd (cc)) c.in-Ok.ensures.reading
    c.of_reading.ensures

pub returns-in-Err-Refused : goal.returns-in-Err-Refused
returns-in-Err-Refused g c =
    let told = (c.read.ensures.refused c.in-Err-Refused.refusal).0
    (c.in-Err-Refused.is ∙ ap Err c.in-Err-Refused.field-0-is) in
    subst (λ (why : Option Refusal). IsTold c.args.desk.now.host.history c.args.caller.now c.args.query.now why
    (reply_text c.refused.result)) (sym told) (c.refused.ensures ∙ ap refused c.in-Err-Refused.refusal-is)
