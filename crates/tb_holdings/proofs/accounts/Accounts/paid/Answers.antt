-- What was paid of a security is within its limit.
use Rattle.std.proofs.Common.{ap, arith}
use Rattle.tb_holdings.specs.Holdings.{held_in}
use Rattle.tb_holdings.proofs.KeptLemmas.{paid-limit, paid-none}
use Rattle.tb_holdings.proofs.accounts.Accounts.paid.Goals as goal

pub invariant_of-result : goal.invariant_of-result
invariant_of-result c = record {
  in_range = omega (
    arith,
    c.paid_to.ensures,
    ap (held_in c.args.holder c.args.security) c.deref.ensures.value,
    paid-limit c.self.invariant.0 c.args.holder c.args.security,
  );
}

pub returns-clause-not_yet : goal.returns-clause-not_yet
returns-clause-not_yet c =
    rw (← c.self.view_is) (λ live. paid-none c.self.invariant.0 c.args.holder c.args.security live)
