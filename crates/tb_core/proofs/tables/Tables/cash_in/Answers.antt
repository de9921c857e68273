-- The numbers are places in the tables.
use Rattle.std.proofs.Common.{refl}
use Rattle.tb_core.proofs.tables.Tables.cash_in.Goals as goal

pub returns-in-Deposit : goal.returns-in-Deposit
returns-in-Deposit c = rw (c.in-Deposit.is, c.holder_number.ensures) refl

pub returns-in-Withdraw : goal.returns-in-Withdraw
returns-in-Withdraw c = rw (c.in-Withdraw.is, c.holder_number-in-Withdraw.ensures) refl

pub returns-in-Sell : goal.returns-in-Sell
returns-in-Sell c =
    rw (c.in-Sell.is, c.holder_number-in-Sell.ensures, c.holder_number-in-Sell-2.ensures, c.bill_number.ensures) refl

pub returns-in-Buy : goal.returns-in-Buy
returns-in-Buy c = rw (c.in-Buy.is, c.holder_number-in-Buy.ensures) refl

pub returns-in-Retract : goal.returns-in-Retract
returns-in-Retract c = rw (c.in-Retract.is, c.holder_number-in-Retract.ensures) refl
