use Rattle.std.proofs.Common.{sym}
use Rattle.tb_terms.specs.Closings.{c_closing-terms}
use Rattle.tb_refusals.proofs.refusals.competitive_closing.Goals as goal

pub returns : goal.returns
returns c = sym (c_closing-terms c.args.terms.now)
