-- The awards are added up line by line until they reach the part.
use Rattle.std.proofs.Common.{subst, ap, ◌∙◌, arith}
use Rattle.std.proofs.lemmas.List.{take_all}
use Rattle.std.proofs.lemmas.List.Sums.{sum_by_more, sum_by-take-le}
use Rattle.tb_units.specs.declared.lines.RateLine.{RateLine}
use Rattle.tb_award.specs.Cuts.{amount_of, total_of}
use Rattle.tb_award.specs.Stops.{IsStop}
use Rattle.tb_award.proofs.AwardLemmas.{award-le, length-awards}
use Rattle.tb_award.proofs.RateLemmas.{IsStop-here, IsStop-last, awards-next, length-le-total}
use Rattle.tb_award.proofs.rates.rate_reaching.Goals as goal

pub overflow_add-sum : goal.overflow_add-sum
overflow_add-sum c =
    let lines = c.args.lines.now in
    omega (
      arith,
      c.loop-line.invariant.bound,
      sum_by-take-le amount_of lines c.loop-line.line-index,
      length-le-total lines c.requires.amounts,
      c.requires.fits,
      c.award-sum.result.in_range,
    )

pub returns-then-sum-part : goal.returns-then-sum-part
returns-then-sum-part c = λ awards are.
    let lines = c.args.lines.now in
    let k = c.loop-line.line-index in
    let so_far = c.loop-line.invariant.sum awards are in
    let line = c.line-item.result in
    let below = c.loop-line-test.true in
    let next =
    awards-next c.args.cut.now lines awards k line c.award-sum.result.value are below c.line-item.is
    c.award-sum.ensures in
    IsStop-here c.args.cut.now lines awards c.args.part k line are below c.line-item.is
    (omega (arith, so_far, c.loop-line.invariant.short)) (omega (arith, so_far, next))

pub loop-line-preserved : goal.loop-line-preserved
loop-line-preserved c =
    let lines = c.args.lines.now in
    let k = c.loop-line.line-index in
    let line = c.line-item.result in
    let cut = c.args.cut.now in
    let award = c.award-sum.result.value in
    let below = c.loop-line-test.true in
    record {
      sum = λ awards are.
          omega (
            arith,
            c.loop-line.invariant.sum awards are,
            awards-next cut lines awards k line award are below c.line-item.is c.award-sum.ensures,
          );
      bound =
          omega (
            arith,
            c.loop-line.invariant.bound,
            sum_by_more amount_of lines k line below,
            ap amount_of c.line-item.is,
            award-le cut.stop.steps cut.percent.hundredths line.rate.steps line.amount.value award cut.percent.in_range
                c.award-sum.ensures,
          );
      short = omega arith;
    }

pub returns : goal.returns
returns c = λ awards are.
    let lines = c.args.lines.now in
    let size = length-awards c.args.cut.now.stop.steps c.args.cut.now.percent.hundredths lines awards are in
    let all = take_all c.loop-line.line-index awards (omega (arith, size)) in
    let sum = c.loop-line.invariant.sum awards are ∙ ap total_of all in
    subst (λ (line : RateLine). IsStop awards c.args.part line.rate.steps) c.index-lines-lines.is
    (IsStop-last c.args.cut.now lines awards c.args.part c.index-lines-lines.result are c.requires.some
    c.index-lines-lines.is
    (omega (arith, sum, c.loop-line.invariant.short)))
