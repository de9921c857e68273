-- The sum is far from the most of its type.
use Rattle.std.proofs.Common.{List, subst, arith}
use Rattle.tb_units.specs.declared.lines.RateLine.{RateLine}
use Rattle.tb_award.specs.Stops.{AwardsSumTo}
use Rattle.tb_award.proofs.RateLemmas.{all-fits}
use Rattle.tb_award.proofs.rates.awarded.Goals as goal

pub invariant_of-result : goal.invariant_of-result
invariant_of-result c =
    let lines = c.args.recognised.now.lines in
    let sum =
    subst (λ (ls : List RateLine). AwardsSumTo c.args.cut.now ls c.sum_of.result) c.as_slice.ensures.lines
    c.sum_of.ensures in
    record {
      in_range =
          omega (arith, all-fits c.args.cut.now lines c.sum_of.result c.as_slice.ensures.amounts c.requires sum);
    }
