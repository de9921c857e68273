use Rattle.std.proofs.Common.{◌≡◌, [], ◌∷◌, ◌++◌, take, refl, ap, ◌∙◌}
use Rattle.std.specs.Prelude.{codes}
use Rattle.std.proofs.lemmas.Result.{on_ok_weaker}
use Rattle.tb_units.specs.Decimals.{rate_text, percent_text, price_text, with_decimals}
use Rattle.tb_report.specs.Lines.{line, with_lines}
use Rattle.tb_report.specs.Results.{rate_lines}
use Rattle.tb_report.proofs.Texts.{told, with_lines-more}
use Rattle.tb_report.proofs.results.push_rates.Goals as goal

-- each line is its label and what was printed, and the last one stands as it is
pub returns : goal.returns
returns c =
    let figures = c.args.figures.now in
    let text = c.args.text.now in
    let lines = rate_lines figures in
    let line_high : c.labelled.new.self ≡ with_lines text (take 1 lines) =
    told text (take 0 lines) (codes "high") c.bytes.result.now (rate_text figures.cut.stop.steps)
    c.in_ok-labelled.ensures (c.bytes.ensures.bytes ∙ c.print.ensures) refl in
    let line_allotted : c.labelled-2.new.self ≡ with_lines text (take 2 lines) =
    told text (take 1 lines) (codes "allotted") c.bytes-2.result.now (percent_text figures.cut.percent.hundredths)
    c.in_ok-labelled-2.ensures (c.bytes-2.ensures.bytes ∙ c.print-2.ensures) line_high in
    let line_median : c.labelled-3.new.self ≡ with_lines text (take 3 lines) =
    told text (take 2 lines) (codes "median") c.bytes-3.result.now (rate_text figures.median.steps)
    c.in_ok-labelled-3.ensures (c.bytes-3.ensures.bytes ∙ c.print-3.ensures) line_allotted in
    let line_low : c.labelled-4.new.self ≡ with_lines text (take 4 lines) =
    told text (take 3 lines) (codes "low") c.bytes-4.result.now (rate_text figures.low.steps)
    c.in_ok-labelled-4.ensures (c.bytes-4.ensures.bytes ∙ c.print-4.ensures) line_median in
    let line_price : c.labelled-5.new.self ≡ with_lines text (take 5 lines) =
    told text (take 4 lines) (codes "price") c.bytes-5.result.now (price_text figures.cut.price.millionths)
    c.in_ok-labelled-5.ensures (c.bytes-5.ensures.bytes ∙ c.print-5.ensures) line_low in
    let line_investment : c.labelled-6.new.self ≡ with_lines text (take 6 lines) =
    told text (take 5 lines) (codes "investment") c.bytes-6.result.now (with_decimals 3 figures.investment.thousandths)
    c.in_ok-labelled-6.ensures (c.bytes-6.ensures.bytes ∙ c.print-6.ensures) line_price in
    on_ok_weaker c.line.result
    (λ pushed.
    pushed
    ∙ ap (λ t. t ++ line (codes "bids at lower rates were accepted in full" ∷ [])) line_investment
    ∙ with_lines-more text (take 6 lines) (codes "bids at lower rates were accepted in full" ∷ []))
    c.line.ensures
