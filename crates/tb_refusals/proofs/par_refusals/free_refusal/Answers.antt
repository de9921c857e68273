-- The amount is shown as it is.
use Rattle.std.proofs.Common.{ap, sym, Some}
use Rattle.std.proofs.lemmas.Bool.{lt-ltb}
use Rattle.tb_units.specs.declared.amount.Dollars.{Dollars}
use Rattle.tb_units.specs.Amounts.{dollars_of-value}
use Rattle.tb_terms.specs.declared.refusal.Refusal.TheVariants as refusals
use Rattle.tb_refusals.proofs.par_refusals.free_refusal.Goals as goal

pub returns-then-free-amount : goal.returns-then-free-amount
returns-then-free-amount c =
    rw (lt-ltb c.args.free.value c.args.amount.value c.if-free-amount.true)
    (ap (λ (d : Dollars). Some (refusals.InsufficientFree d)) (sym (dollars_of-value c.args.free)))
