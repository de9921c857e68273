-- The sum, the median and the low rate are of one list of awards.
use Rattle.std.proofs.Common.{List, refl, subst}
use Rattle.tb_units.specs.declared.lines.RateLine.{RateLine}
use Rattle.tb_award.specs.Awards.{IsLowRate, IsMedianRate}
use Rattle.tb_award.proofs.AwardLemmas.{AreAwards-one}
use Rattle.tb_results.proofs.publishing.figures_at.Goals as goal

pub returns-clause-figures : goal.returns-clause-figures
returns-clause-figures c =
    let stop = c.args.cut.now.stop.steps in
    let percent = c.args.cut.now.percent.hundredths in
    let lines = c.args.recognised.now.lines in
    let median = c.median_rate.ensures in
    let low = c.low_rate.ensures in
    let sum = c.awarded.ensures in
    record {
      awards = sum.0;
      awards_are = sum.1;
      cut_is = refl;
      competitive = sum.2;
      median = subst (λ (awards : List RateLine). IsMedianRate awards c.median_rate.result.steps)
          (AreAwards-one stop percent lines median.0 sum.0 median.1 sum.1) median.2;
      low = subst (λ (awards : List RateLine). IsLowRate awards c.low_rate.result.steps)
          (AreAwards-one stop percent lines low.0 sum.0 low.1 sum.1) low.2;
    }
