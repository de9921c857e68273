-- The operator's name is a name.
use Rattle.std.proofs.Common.{sym, ◌∙◌}
use Rattle.tb_filing.proofs.PublishedLemmas.{operator-named}
use Rattle.tb_filing.proofs.results.operator.Goals as goal

pub unreachable-requires : goal.unreachable-requires
unreachable-requires c = let wrong = sym operator-named ∙ sym c.of_bytes.ensures ∙ c.in-None.is in cc

pub returns : goal.returns
returns c = let found = sym operator-named ∙ sym c.of_bytes.ensures ∙ c.in-Some.is in cc
