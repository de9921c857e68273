use Rattle.std.proofs.Common.{ap, nat_lt}
use Rattle.tb_refusals.proofs.refusals.is_before_issue.Goals as goal

pub returns : goal.returns
returns c = ap (nat_lt c.args.moment.seconds) c.args.terms.now.issued
