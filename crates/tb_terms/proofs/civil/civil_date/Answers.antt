use Rattle.std.proofs.Common.{arith, ap}
use Rattle.std.specs.Prelude.{unsigned_abs}
use Rattle.tb_terms.specs.Calendar.{year_of}
use Rattle.tb_terms.proofs.CalendarFacts.{IsDateOfNumber-from, year_cast}
use Rattle.tb_terms.proofs.civil.civil_date.Goals as goal

pub overflow_cast-result : goal.overflow_cast-result
overflow_cast-result c =
    let is =
    IsDateOfNumber-from c.date_of_number-date.result c.args.day.number c.date_of_number-date.ensures
    c.args.day.not_before c.args.day.not_after in
    let year = year_cast c.date_of_number-date.result.year (year_of c.args.day.number) is.year_is is.ours in
    let small = is.ours.to in
    rw year (tt, omega arith)

pub returns-clause-year : goal.returns-clause-year
returns-clause-year c =
    let is =
    IsDateOfNumber-from c.date_of_number-date.result c.args.day.number c.date_of_number-date.ensures
    c.args.day.not_before c.args.day.not_after in
    ap unsigned_abs (year_cast c.date_of_number-date.result.year (year_of c.args.day.number) is.year_is is.ours)

pub returns-clause-month : goal.returns-clause-month
returns-clause-month c =
    (IsDateOfNumber-from c.date_of_number-date.result c.args.day.number c.date_of_number-date.ensures
    c.args.day.not_before c.args.day.not_after).month_is

pub returns-clause-day : goal.returns-clause-day
returns-clause-day c =
    (IsDateOfNumber-from c.date_of_number-date.result c.args.day.number c.date_of_number-date.ensures
    c.args.day.not_before c.args.day.not_after).day_is
