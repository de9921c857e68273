use Rattle.std.proofs.Common.{ap, sym, ◌∙◌}
use Rattle.std.specs.Prelude.{Some, option_map}
use Rattle.tb_import.specs.Sent.{rate_of}
use Rattle.tb_import.proofs.SentLemmas.{rate_of-steps}
use Rattle.tb_import.proofs.row.rate.Goals as goal

pub returns-in-Some : goal.returns-in-Some
returns-in-Some c = ap Some (rate_of-steps _) ∙ ap (option_map rate_of) (sym c.in-Some.is)
