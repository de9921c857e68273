use Rattle.tb_terms.proofs.PayableFacts.{IsWalked-step, IsPaymentDate-last}
use Rattle.tb_terms.proofs.paying.payment_date.Goals as goal

pub loop-holiday-preserved : goal.loop-holiday-preserved
loop-holiday-preserved c =
    IsWalked-step c.args.holidays.now c.args.maturity.number c.loop-holiday.number c.loop-holiday.holiday-index
    c.weekday_past-number.result c.holiday-item.result c.requires.order c.loop-holiday-test.true c.holiday-item.is
    c.loop-holiday.invariant c.weekday_past-number.ensures.other c.weekday_past-number.ensures.same

pub returns : goal.returns
returns c =
    IsPaymentDate-last c.args.holidays.now c.args.maturity.number c.loop-holiday.number c.loop-holiday.holiday-index
    c.loop-holiday-test.false c.loop-holiday.auto.holiday-index-end c.loop-holiday.invariant
