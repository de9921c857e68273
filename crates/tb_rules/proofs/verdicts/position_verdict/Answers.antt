use Rattle.std.proofs.Common.{arith}
use Rattle.std.proofs.lemmas.Bool.Decides.{nat_tests}
use Rattle.tb_terms.specs.Closings.{c_closing-terms}
use Rattle.tb_rules.proofs.verdicts.position_verdict.Goals as goal

pub returns-then-moment-terms : goal.returns-then-moment-terms
returns-then-moment-terms c = rw (c_closing-terms c.args.terms.now) (grind (arith, nat_tests))

pub returns : goal.returns
returns c = rw (c_closing-terms c.args.terms.now) (grind (arith, nat_tests))
