-- The first business day from the maturity on is found.
use Rattle.std.proofs.Common.{arith}
use Rattle.tb_terms.specs.Payable.{numbers_of, is_business_day}
use Rattle.tb_history.specs.Tables.{payment_day}
use Rattle.tb_history.proofs.CutFigureLemmas.{first_from-is}
use Rattle.tb_history.proofs.histories.payment_days_are_first.Goals as goal

pub returns : goal.returns
unfolding payment_day
returns c entered maturity day is within =
    first_from-is (is_business_day (numbers_of entered)) maturity.number 47482 day is.from (omega (arith, within))
    is.business is.first
