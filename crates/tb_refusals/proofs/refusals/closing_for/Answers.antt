use Rattle.std.proofs.Common.{sym}
use Rattle.tb_terms.specs.Closings.{nc_closing-terms, c_closing-terms}
use Rattle.tb_refusals.proofs.refusals.closing_for.Goals as goal

pub returns-in-Some : goal.returns-in-Some
returns-in-Some c = rw c.in-Some.is (sym (c_closing-terms c.args.terms.now))

pub returns-in-None : goal.returns-in-None
returns-in-None c = rw c.in-None.is (sym (nc_closing-terms c.args.terms.now))
