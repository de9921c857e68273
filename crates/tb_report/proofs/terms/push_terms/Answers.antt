use Rattle.std.proofs.Common.{ap, ◌∙◌}
use Rattle.std.proofs.lemmas.Result.{on_ok_weaker}
use Rattle.tb_report.specs.Lines.{with_lines}
use Rattle.tb_report.specs.Terms.{offer_lines, date_lines}
use Rattle.tb_report.proofs.Texts.{with_lines-twice}
use Rattle.tb_report.proofs.terms.push_terms.Goals as goal

-- what is offered, and behind it when
pub returns : goal.returns
returns c =
    let a = c.args.terms.now in
    on_ok_weaker c.push_dates.result
    (λ pushed.
    pushed
    ∙ ap (λ text. with_lines text (date_lines a)) c.in_ok-push_offer.ensures
    ∙ with_lines-twice c.args.text.now (offer_lines a) (date_lines a))
    c.push_dates.ensures
