-- The balance is shown as it is.
use Rattle.std.proofs.Common.{ap, sym, Some}
use Rattle.std.proofs.lemmas.Bool.{lt-ltb}
use Rattle.tb_units.specs.declared.cents.Cents.{Cents}
use Rattle.tb_units.specs.Amounts.{cents_of-value}
use Rattle.tb_terms.specs.declared.refusal.Refusal.TheVariants as refusals
use Rattle.tb_refusals.proofs.money_refusals.funds_refusal.Goals as goal

pub returns-then-balance-cents : goal.returns-then-balance-cents
returns-then-balance-cents c =
    rw (lt-ltb c.args.balance.value c.args.cents.value c.if-balance-cents.true)
    (ap (λ (balance : Cents). Some (refusals.InsufficientFunds balance)) (sym (cents_of-value c.args.balance)))
