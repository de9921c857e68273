use Rattle.std.proofs.Common.{arith, pos, ◌∙◌, w32}
use Rattle.jiff_core.proofs.SignedLemmas.{back_small}
use Rattle.tb_terms.proofs.CalendarFacts.{IsDated-civil, IsDate-from, IsNumbered-from, days_in_month-most}
use Rattle.tb_terms.proofs.civil.day_of_date.Goals as goal
use Rattle.tb_terms.proofs.civil.day_of_date.Goals.{then-year-lt2000-via-then-year-lt2000, then-year-lt2000-via-else-year-lt2000+then-year-gt2099, then-year-lt2000-via-else-year-lt2000+else-year-gt2099+then-month-gt12, then-year-lt2000-via-else-year-lt2000+else-year-gt2099+else-month-gt12+then-day-gt31}

pub returns-then-year-lt2000-clause-none : goal.returns-then-year-lt2000-clause-none
returns-then-year-lt2000-clause-none c = λ n from to dated.
    let civil = IsDated-civil n c.args.year c.args.month c.args.day from to dated in
    let most = days_in_month-most c.args.year c.args.month in
    let low = civil.ours.from in
    let high = civil.ours.to in
    let months = civil.month_to in
    let days = civil.day_to in
    elim c.then-year-lt2000.branch [
      | then-year-lt2000-via-then-year-lt2000 w ↦ omega arith
      | then-year-lt2000-via-else-year-lt2000+then-year-gt2099 w ↦ omega arith
      | then-year-lt2000-via-else-year-lt2000+else-year-gt2099+then-month-gt12 w ↦ omega arith
      | then-year-lt2000-via-else-year-lt2000+else-year-gt2099+else-month-gt12+then-day-gt31 w ↦ omega arith
    ]

pub returns-in_default-clause-none : goal.returns-in_default-clause-none
returns-in_default-clause-none c = λ n from to dated.
    let civil = IsDated-civil n c.args.year c.args.month c.args.day from to dated in
    let wrong = c.in_default.ensures.succeeds.1 (IsDate-from c.args.year c.args.month c.args.day n civil) in
    cc (wrong)

pub overflow_cast-result : goal.overflow_cast-result
overflow_cast-result c =
    let value = c.in-Ok.ensures.value in
    let is =
    IsNumbered-from c.in-Ok.date c.args.year c.args.month c.args.day
    (record { from = omega arith; to = omega arith }) (omega arith) (omega arith) value.0 value.1 value.2 in
    let high = is.to in
    rw (c.to_unix_epoch_day.ensures.value ∙ is.is, back_small w32 (pos is.number) (omega arith)) (tt, omega arith)

pub invariant_of-result : goal.invariant_of-result
invariant_of-result c =
    let value = c.in-Ok.ensures.value in
    let is =
    IsNumbered-from c.in-Ok.date c.args.year c.args.month c.args.day
    (record { from = omega arith; to = omega arith }) (omega arith) (omega arith) value.0 value.1 value.2 in
    let high = is.to in
    rw (c.to_unix_epoch_day.ensures.value ∙ is.is, back_small w32 (pos is.number) (omega arith))
    (record { not_before = is.from; not_after = is.to })

pub returns-clause-some : goal.returns-clause-some
returns-clause-some c =
    let value = c.in-Ok.ensures.value in
    let is =
    IsNumbered-from c.in-Ok.date c.args.year c.args.month c.args.day
    (record { from = omega arith; to = omega arith }) (omega arith) (omega arith) value.0 value.1 value.2 in
    let high = is.to in
    rw (c.to_unix_epoch_day.ensures.value ∙ is.is, back_small w32 (pos is.number) (omega arith)) is.dated
