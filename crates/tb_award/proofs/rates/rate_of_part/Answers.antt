-- A part of the awards is a quotient, rounded up, and the stop for it is the rate.
use Rattle.std.proofs.Common.{subst, arith}
use Rattle.std.proofs.lemmas.Grind.{div_ceil_times}
use Rattle.tb_award.proofs.RateLemmas.{AreByRate-awards, IsPart, IsPart-quotient, IsRateOfPart-stop}
use Rattle.tb_award.proofs.rates.rate_of_part.Goals as goal

pub returns : goal.returns
returns c =
    let sum = c.sum_of-all.ensures in
    let quotient = div_ceil_times c.sum_of-all.result c.args.parts c.requires.parts in
    let part : IsPart c.args.parts c.sum_of-all.result c.div_ceil.result =
    IsPart-quotient c.args.parts c.sum_of-all.result c.div_ceil.result (omega arith)
    (rw c.div_ceil.ensures quotient.0) (rw c.div_ceil.ensures quotient.1) in (
      sum.0,
      sum.1,
      IsRateOfPart-stop c.args.parts sum.0 c.div_ceil.result c.rate_reaching.result.steps c.requires.parts
          (AreByRate-awards c.args.cut.now c.args.lines.now sum.0 sum.1 c.requires.order)
          (subst (λ (all : _). IsPart c.args.parts all c.div_ceil.result) sum.2 part)
          (c.rate_reaching.ensures sum.0 sum.1),
    )
