use Rattle.std.proofs.Common.{sym}
use Rattle.tb_message.proofs.Ranges.{part_in-fits, body_in-fits}
use Rattle.tb_message.proofs.requests.message.Goals as goal

pub returns-clause-in_range : goal.returns-clause-in_range
returns-clause-in_range g c = record {
  number_fits = part_in-fits _ _ _ (sym c.in_ok-number.ensures);
  message_fits = body_in-fits _ _ _ _ (sym c.in_ok-message.ensures);
}
