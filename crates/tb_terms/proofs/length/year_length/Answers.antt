use Rattle.std.proofs.Common.{sym, ◌∙◌, refl}
use Rattle.tb_terms.proofs.YearFacts.{HasLeapDay-february}
use Rattle.tb_terms.proofs.length.year_length.Goals as goal

pub returns-then-is_leap_year : goal.returns-then-is_leap_year
returns-then-is_leap_year c =
    let law = HasLeapDay-february c.args.issue.number c.args.issue.not_before c.args.issue.not_after in
    let date = c.civil_date-date.ensures in
    let year = rw (date.year, date.month, date.day) at c.february_after.ensures in
    let leap = rw year at c.is_leap_year.ensures in
    (λ same. law.0 (sym leap ∙ c.if-is_leap_year.true), λ has. refl)

pub returns : goal.returns
returns c =
    let law = HasLeapDay-february c.args.issue.number c.args.issue.not_before c.args.issue.not_after in
    let date = c.civil_date-date.ensures in
    let year = rw (date.year, date.month, date.day) at c.february_after.ensures in
    let leap = rw year at c.is_leap_year.ensures in
    (λ wrong. cc (wrong), λ has. let yes_leap = law.1 has in cc (yes_leap, leap, c.if-is_leap_year.false))
