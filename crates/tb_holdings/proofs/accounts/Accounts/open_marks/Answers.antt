-- No holder has more open marks than the quota.
use Rattle.std.proofs.Common.{arith}
use Rattle.tb_holdings.proofs.accounts.Accounts.open_marks.Goals as goal

pub returns-clause-few : goal.returns-clause-few
returns-clause-few c = omega (arith, c.open_marks.ensures, c.self.invariant.0.few_open c.args.holder)
