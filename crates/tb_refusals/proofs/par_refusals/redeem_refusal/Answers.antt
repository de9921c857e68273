-- The payment date is that of the holidays that were entered.
use Rattle.std.proofs.Common.{◌∙◌}
use Rattle.tb_tables.specs.Auctions.{announcement_in}
use Rattle.tb_history.specs.Tables.{payment_day}
use Rattle.tb_refusals.proofs.RedeemLemmas.{due_rows}
use Rattle.tb_refusals.proofs.par_refusals.redeem_refusal.Goals as goal

pub returns : goal.returns
returns c entered calendar =
    rw (c.in-Some.is, c.if-redeemed.false)
    (c.settled_refusal.ensures
    ∙ due_rows (announcement_in c.args.unsettled) c.payment_date-payment.result
    (payment_day entered c.in-Some.terms.announcement.maturity) c.args.moment.seconds
    (c.payment_date-payment.ensures entered calendar))
