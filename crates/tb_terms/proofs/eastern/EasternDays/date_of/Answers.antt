use Rattle.std.proofs.Common.{◌-◌, ◌/◌, arith}
use Rattle.tb_terms.proofs.EasternFacts.{IsDateOf-same, IsDateOf-next}
use Rattle.tb_terms.proofs.eastern.EasternDays.date_of.Goals as goal
use Rattle.tb_terms.proofs.eastern.EasternDays.date_of.Goals.{else-number-lt-LAST-via-then-number-lt-LAST+else-first_second-moment, else-number-lt-LAST-via-else-number-lt-LAST}

pub returns-then-first_second-moment : goal.returns-then-first_second-moment
returns-then-first_second-moment c =
    IsDateOf-next c.args.moment.seconds ((c.args.moment.seconds - 18000) / 86400) (omega arith) (omega arith)

pub returns : goal.returns
returns c =
    IsDateOf-same c.args.moment.seconds ((c.args.moment.seconds - 18000) / 86400) (omega arith) (omega arith)
    (λ below. elim c.else-number-lt-LAST.branch [
      | else-number-lt-LAST-via-then-number-lt-LAST+else-first_second-moment w ↦ omega arith
      | else-number-lt-LAST-via-else-number-lt-LAST w ↦ absurd (omega arith)
    ])
