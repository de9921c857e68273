use Rattle.std.proofs.Common.{◌≡◌, take, refl, ◌∙◌}
use Rattle.std.specs.Prelude.{codes}
use Rattle.std.proofs.lemmas.Result.{on_ok_weaker}
use Rattle.tb_terms.specs.Texts.{day_text, minute_text}
use Rattle.tb_report.specs.Lines.{with_lines}
use Rattle.tb_report.specs.Terms.{date_lines}
use Rattle.tb_report.proofs.Texts.{told}
use Rattle.tb_report.proofs.terms.push_dates.Goals as goal

-- each line is its label and the day or minute that was printed
pub returns : goal.returns
returns c =
    let a = c.args.terms.now in
    let text = c.args.text.now in
    let lines = date_lines a in
    let line_date : c.labelled.new.self ≡ with_lines text (take 1 lines) =
    told text (take 0 lines) (codes "date") c.bytes.result.now (day_text a.auction_date.number)
    c.in_ok-labelled.ensures (c.bytes.ensures.bytes ∙ c.print_day.ensures.text) refl in
    let line_nc_close : c.labelled-2.new.self ≡ with_lines text (take 2 lines) =
    told text (take 1 lines) (codes "nc_close") c.bytes-2.result.now (minute_text a.nc_close)
    c.in_ok-labelled-2.ensures (c.bytes-2.ensures.bytes ∙ c.print_minute.ensures) line_date in
    let line_c_close : c.labelled-3.new.self ≡ with_lines text (take 3 lines) =
    told text (take 2 lines) (codes "c_close") c.bytes-3.result.now (minute_text a.c_close)
    c.in_ok-labelled-3.ensures (c.bytes-3.ensures.bytes ∙ c.print_minute-2.ensures) line_nc_close in
    let line_issue : c.labelled-4.new.self ≡ with_lines text (take 4 lines) =
    told text (take 3 lines) (codes "issue") c.bytes-4.result.now (day_text a.issue.number)
    c.in_ok-labelled-4.ensures (c.bytes-4.ensures.bytes ∙ c.print_day-2.ensures.text) line_c_close in
    on_ok_weaker c.labelled-5.result
    (λ pushed.
    told text (take 4 lines) (codes "maturity") c.bytes-5.result.now (day_text a.maturity.number)
    pushed (c.bytes-5.ensures.bytes ∙ c.print_day-3.ensures.text) line_issue)
    c.labelled-5.ensures
