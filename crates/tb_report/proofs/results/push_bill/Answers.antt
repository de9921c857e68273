use Rattle.std.proofs.Common.{◌≡◌, ◌-◌, take, refl, ◌∙◌}
use Rattle.std.specs.Prelude.{codes}
use Rattle.std.specs.Fmt.{decimal}
use Rattle.std.proofs.lemmas.Result.{on_ok_weaker}
use Rattle.tb_terms.specs.Texts.{day_text}
use Rattle.tb_report.specs.Lines.{with_lines}
use Rattle.tb_report.specs.Results.{bill_lines}
use Rattle.tb_report.proofs.Texts.{told}
use Rattle.tb_report.proofs.results.push_bill.Goals as goal

-- each line is its label and what was printed
pub returns : goal.returns
returns c =
    let a = c.args.terms.now in
    let text = c.args.text.now in
    let lines = bill_lines a c.args.noncompetitive.value in
    let line_auction : c.labelled.new.self ≡ with_lines text (take 1 lines) =
    told text (take 0 lines) (codes "auction") c.bytes.result.now (a.auction)
    c.in_ok-labelled.ensures (c.bytes.ensures.bytes) refl in
    let line_cusip : c.labelled-2.new.self ≡ with_lines text (take 2 lines) =
    told text (take 1 lines) (codes "cusip") a.cusip.bytes (a.cusip.bytes)
    c.in_ok-labelled-2.ensures (refl) line_auction in
    let line_issue : c.labelled-3.new.self ≡ with_lines text (take 3 lines) =
    told text (take 2 lines) (codes "issue") c.bytes-2.result.now (day_text a.issue.number)
    c.in_ok-labelled-3.ensures (c.bytes-2.ensures.bytes ∙ c.print_day.ensures.text) line_cusip in
    let line_maturity : c.labelled-4.new.self ≡ with_lines text (take 4 lines) =
    told text (take 3 lines) (codes "maturity") c.bytes-3.result.now (day_text a.maturity.number)
    c.in_ok-labelled-4.ensures (c.bytes-3.ensures.bytes ∙ c.print_day-2.ensures.text) line_issue in
    let line_days : c.labelled-5.new.self ≡ with_lines text (take 5 lines) =
    told text (take 4 lines) (codes "days") c.bytes-4.result.now (decimal (a.maturity.number - a.issue.number))
    c.in_ok-labelled-5.ensures (c.bytes-4.ensures.bytes ∙ c.whole.ensures) line_maturity in
    let line_offering : c.labelled-6.new.self ≡ with_lines text (take 6 lines) =
    told text (take 5 lines) (codes "offering") c.bytes-5.result.now (decimal a.offering.value)
    c.in_ok-labelled-6.ensures (c.bytes-5.ensures.bytes ∙ c.print.ensures) line_days in
    on_ok_weaker c.labelled-7.result
    (λ pushed.
    told text (take 6 lines) (codes "noncompetitive") c.bytes-6.result.now (decimal c.args.noncompetitive.value)
    pushed (c.bytes-6.ensures.bytes ∙ c.print-2.ensures) line_offering)
    c.labelled-7.ensures
