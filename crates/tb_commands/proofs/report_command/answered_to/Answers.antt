use Rattle.std.proofs.Common.{Option, ap, subst, sym, ◌∙◌}
use Rattle.std.specs.Prelude.{Err}
use Rattle.tb_terms.specs.declared.refusal.Refusal.{Refusal}
use Rattle.tb_history.specs.Answer.{query_refusal}
use Rattle.tb_commands.specs.Answers.{reply_text}
use Rattle.tb_commands.specs.Replies.{refused}
use Rattle.tb_commands.specs.ReportRun.{IsShown}
use Rattle.std.specs.Prelude.{Some}
use Rattle.tb_commands.proofs.ReportLemmas.{shown-reading}
use Rattle.tb_commands.proofs.report_command.answered_to.Goals as goal
use Rattle.tb_report.proofs.PrintableLemmas.{IsPrintable-reading}

pub printed-requires : goal.printed-requires
printed-requires g c =
    IsPrintable-reading c.args.desk.now.host.history c.args.caller.now c.args.asked.now.query c.in-Ok.reading
    c.entries.ensures.legal c.in-Ok.ensures.reading

pub returns-in_ok-text-in-Ok : goal.returns-in_ok-text-in-Ok
returns-in_ok-text-in-Ok g c =
    shown-reading c.args.desk.now.host.history c.args.caller.now c.args.asked.now
    (query_refusal c.args.desk.now.host.history c.args.caller.now c.args.asked.now.query) c.in-Ok.reading
    c.in_ok-text-in-Ok.text.items
    (λ refusal is. let told = (c.read.ensures.refused refusal).1 is in absurd (cc)) c.in-Ok.ensures.reading
    c.in_ok-text-in-Ok.ensures

pub returns-in-Err-Refused : goal.returns-in-Err-Refused
returns-in-Err-Refused g c =
    let told = (c.read.ensures.refused c.in-Err-Refused.refusal).0
    (c.in-Err-Refused.is ∙ ap Err c.in-Err-Refused.field-0-is) in
    subst (λ (why : Option Refusal). IsShown c.args.desk.now.host.history (Some c.args.caller.now) c.args.asked.now why
    (reply_text c.refused.result)) (sym told) (c.refused.ensures ∙ ap refused c.in-Err-Refused.refusal-is)
