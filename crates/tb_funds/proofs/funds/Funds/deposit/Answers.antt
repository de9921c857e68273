-- What is added fits.
use Rattle.std.proofs.Common.{arith}
use Rattle.tb_funds.proofs.AmountLemmas.{amount_in-most}
use Rattle.tb_funds.proofs.funds.Funds.deposit.Goals as goal

pub raise-requires-clause-fits : goal.raise-requires-clause-fits
raise-requires-clause-fits c =
    let limit = rw (← c.self.view_is) at c.requires.limit in
    omega (arith, limit, amount_in-most c.args.holder c.self.inside.balances.elements)
