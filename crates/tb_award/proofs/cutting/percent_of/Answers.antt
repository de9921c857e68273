-- The least percentage is a quotient, rounded up.
use Rattle.std.proofs.Common.{◌*◌, arith}
use Rattle.std.proofs.lemmas.Grind.{div_ceil_times}
use Rattle.tb_award.proofs.CutLemmas.{least_quotient}
use Rattle.tb_award.proofs.cutting.percent_of.Goals as goal

pub returns : goal.returns
returns c =
    let is = div_ceil_times (10000 * c.args.missing) c.args.at_stop (omega arith) in
    record {
      enough = λ within. rw c.div_ceil.ensures is.0;
      least = λ within other reaches.
          least_quotient _ other (10000 * c.args.missing) c.args.at_stop (rw c.div_ceil.ensures is.1) reaches;
      short = λ less. absurd (omega (arith, less));
    }
