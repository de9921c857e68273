-- A holder holds no more than all together, and they no more than the limit.
use Rattle.std.proofs.Common.{arith}
use Rattle.tb_holdings.proofs.HoldingLemmas.{held_in-le-total_in}
use Rattle.tb_holdings.proofs.KeptLemmas.{held_in-limit}
use Rattle.tb_holdings.proofs.accounts.Accounts.held.Goals as goal

pub invariant_of-result : goal.invariant_of-result
invariant_of-result c = record {
  in_range = omega (
    arith,
    c.held_by.ensures,
    held_in-limit c.self.invariant.0 c.args.holder c.args.security,
  );
}

pub returns-clause-part : goal.returns-clause-part
returns-clause-part c =
    rw (← c.self.view_is) (held_in-le-total_in c.args.holder c.args.security c.self.inside.accounts.elements)
