use Rattle.std.proofs.Common.{ap, ◌∙◌}
use Rattle.std.proofs.lemmas.Result.{on_ok_weaker}
use Rattle.tb_report.specs.Lines.{with_lines}
use Rattle.tb_report.specs.Results.{bill_lines, figures_lines}
use Rattle.tb_report.proofs.Texts.{with_lines-twice}
use Rattle.tb_report.proofs.results.push_results.Goals as goal

-- the bill, and behind it what was awarded
pub returns : goal.returns
returns c =
    let r = c.args.results.now in
    let bill = bill_lines r.terms r.noncompetitive.value in
    let figures = figures_lines r.noncompetitive.value r.addon.value r.figures in
    on_ok_weaker c.push_figures.result
    (λ pushed.
    pushed
    ∙ ap (λ text. with_lines text figures) c.in_ok-push_bill.ensures
    ∙ with_lines-twice c.args.text.now bill figures)
    c.push_figures.ensures
