use Rattle.std.proofs.Common.{◌≡◌, arith, pos, ℤ, ap, ◌∙◌}
use Rattle.std.specs.Prelude.{unsigned_abs}
use Rattle.std.proofs.lemmas.Result.{IfOk-at_ok}
use Rattle.jiff_core.specs.Date.{epoch_day}
use Rattle.tb_terms.specs.Zone.{start_in_zone}
use Rattle.tb_terms.proofs.EasternRule.{in_years}
use Rattle.tb_terms.proofs.EasternFacts.{start_of-bounds, second_is}
use Rattle.tb_terms.proofs.zone.start_of_day.Goals as goal

pub start_of_date-requires-clause-year : goal.start_of_date-requires-clause-year
start_of_date-requires-clause-year c =
    in_years c.from_plain.result c.args.day.number (ap epoch_day c.from_plain.ensures ∙ c.date_of_number.ensures)
    c.args.day.not_before c.args.day.not_after

pub overflow_cast-result : goal.overflow_cast-result
overflow_cast-result c =
    let number : epoch_day c.from_plain.result ≡ pos c.args.day.number =
    ap epoch_day c.from_plain.ensures ∙ c.date_of_number.ensures in
    let value =
    IfOk-at_ok (λ (second : ℤ). second ≡ start_in_zone c.from_plain.result.year (epoch_day c.from_plain.result))
    c.unwrap.ensures c.start_of_date.ensures.start in
    let is =
    second_is c.from_plain.result c.args.day.number c.unwrap.result number c.args.day.not_before
    c.args.day.not_after value in
    let bounds = start_of-bounds c.args.day.number in
    let last = c.args.day.not_after in
    rw is (tt, omega arith)

pub returns : goal.returns
returns c =
    let number : epoch_day c.from_plain.result ≡ pos c.args.day.number =
    ap epoch_day c.from_plain.ensures ∙ c.date_of_number.ensures in
    let value =
    IfOk-at_ok (λ (second : ℤ). second ≡ start_in_zone c.from_plain.result.year (epoch_day c.from_plain.result))
    c.unwrap.ensures c.start_of_date.ensures.start in
    ap unsigned_abs (second_is c.from_plain.result c.args.day.number c.unwrap.result number c.args.day.not_before
    c.args.day.not_after value)
