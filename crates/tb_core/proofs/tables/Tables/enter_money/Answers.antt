-- The funds tell what the tables say of the message.
use Rattle.std.proofs.Common.{◌∙◌, Option, sym, subst, arith}
use Rattle.tb_cashbook.specs.declared.cash.CashMovement.{CashMovement}
use Rattle.tb_cashbook.specs.Cashbook.{CanEnter, Means, TellsNext}
use Rattle.tb_cashbook.proofs.CashbookLemmas.{tells-other}
use Rattle.tb_cashbook.proofs.MeaningLemmas.{is-other}
use Rattle.tb_core.proofs.MoneyLemmas.{KeepsRows-money}
use Rattle.tb_core.proofs.tables.Tables.enter_money.Goals as goal

pub enter_cash-requires-clause-next : goal.enter_cash-requires-clause-next
enter_cash-requires-clause-next c =
    subst (λ (cash : Option CashMovement). CanEnter (Means cash) c.args.self.now.funds)
    (sym c.cash_in.ensures ∙ c.in-Some.is) c.requires.next

pub returns-in-Some-clause-told : goal.returns-in-Some-clause-told
returns-in-Some-clause-told c =
    subst (λ (cash : Option CashMovement). TellsNext (Means cash) c.args.self.now.funds c.enter_cash.new.funds)
    (sym c.in-Some.is ∙ c.cash_in.ensures) c.enter_cash.ensures.told

pub returns-in-Some-clause-keeps : goal.returns-in-Some-clause-keeps
returns-in-Some-clause-keeps c = KeepsRows-money c.args.self.now c.args.self.now.accounts c.enter_cash.new.funds

pub returns-in_default-clause-told : goal.returns-in_default-clause-told
returns-in_default-clause-told c history entry next means =
    tells-other history entry c.args.self.now.funds next
    (is-other history entry (means ∙ sym c.cash_in.ensures ∙ c.in_default.is))

pub returns-in_default-clause-keeps : goal.returns-in_default-clause-keeps
returns-in_default-clause-keeps c =
    KeepsRows-money c.args.self.now c.args.self.now.accounts c.args.self.now.funds

pub returns-in_default-clause-room : goal.returns-in_default-clause-room
returns-in_default-clause-room c = record { spare_balances = omega arith; spare_offers = omega arith }
