-- A balance is no more than all of them.
use Rattle.std.proofs.Common.{arith}
use Rattle.tb_funds.proofs.AmountLemmas.{amount_in-most}
use Rattle.tb_funds.proofs.funds.Funds.balance.Goals as goal

pub invariant_of-result : goal.invariant_of-result
invariant_of-result c = record {
  in_range = omega (
    arith,
    c.amount_of.ensures,
    amount_in-most c.args.holder c.self.inside.balances.elements,
    c.self.invariant.limited,
  );
}

pub returns-clause-within : goal.returns-clause-within
returns-clause-within c =
    rw (← c.self.view_is) (amount_in-most c.args.holder c.self.inside.balances.elements)
