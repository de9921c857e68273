-- At first nothing is settled.
use Rattle.tb_award.specs.Passes.{bounds_of}
use Rattle.tb_award.proofs.PassLemmas.{AreSettled-none}
use Rattle.tb_award.proofs.recognising.recognise_into.Goals as goal

pub recognise_lines-requires-clause-none : goal.recognise_lines-requires-clause-none
recognise_lines-requires-clause-none g c =
    rw (c.start.ensures.recognised, c.start.ensures.taken)
    (AreSettled-none (bounds_of c.args.positions.now c.args.offering.value))
