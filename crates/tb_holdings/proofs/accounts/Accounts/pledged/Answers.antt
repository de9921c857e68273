-- What is pledged is held, and so within the limit.
use Rattle.std.proofs.Common.{arith}
use Rattle.tb_holdings.proofs.KeptLemmas.{pledged_in-limit}
use Rattle.tb_holdings.proofs.accounts.Accounts.pledged.Goals as goal

pub pledged-requires : goal.pledged-requires
pledged-requires c = omega (arith, pledged_in-limit c.self.invariant.0 c.args.holder c.args.security)

pub invariant_of-result : goal.invariant_of-result
invariant_of-result c = record {
  in_range = omega (
    arith,
    c.pledged.ensures,
    pledged_in-limit c.self.invariant.0 c.args.holder c.args.security,
  );
}
