-- The stop stands at a line, so its price is known, and what is under it and at it makes the cut.
use Rattle.std.proofs.Common.{Less, Equal, subst, ◌∙◌, arith}
use Rattle.tb_units.specs.declared.lines.RateLine.{RateLine}
use Rattle.tb_price.specs.Prices.{HasPrice}
use Rattle.tb_award.proofs.CutLemmas.{IsCut-stop, at-some, par_on-is, par_on-le, under-less}
use Rattle.tb_award.proofs.cutting.cut_of.Goals as goal

pub par-below-requires : goal.par-below-requires
par-below-requires c =
    omega (arith, par_on-le Less c.stop_of-stop.result.steps c.args.lines.now, c.requires.lines.fits)

pub par-at_stop-requires : goal.par-at_stop-requires
par-at_stop-requires c =
    omega (arith, par_on-le Equal c.stop_of-stop.result.steps c.args.lines.now, c.requires.lines.fits)

pub overflow_sub-sought : goal.overflow_sub-sought
overflow_sub-sought c =
    let below = c.par-below.ensures ∙ par_on-is Less c.stop_of-stop.result.steps c.args.lines.now in
    omega (arith, below, under-less c.requires.lines.order c.stop_of-stop.ensures)

pub percent_of-requires-clause-some : goal.percent_of-requires-clause-some
percent_of-requires-clause-some c =
    let below = c.par-below.ensures ∙ par_on-is Less c.stop_of-stop.result.steps c.args.lines.now in
    omega (arith, below, under-less c.requires.lines.order c.stop_of-stop.ensures)

pub percent_of-requires-clause-at_stop : goal.percent_of-requires-clause-at_stop
percent_of-requires-clause-at_stop c =
    let line : RateLine = record { rate = c.stop_of-stop.result; bidder = 0; amount = c.args.sought } in
    let at_stop = c.par-at_stop.ensures ∙ par_on-is Equal c.stop_of-stop.result.steps c.args.lines.now in
    omega (arith, at_stop, at-some c.requires.lines.order c.stop_of-stop.ensures c.requires.lines.amounts line)

pub percent_of-requires-clause-fits : goal.percent_of-requires-clause-fits
percent_of-requires-clause-fits c =
    omega (
      arith,
      c.par-at_stop.ensures,
      par_on-le Equal c.stop_of-stop.result.steps c.args.lines.now,
      c.requires.lines.fits,
    )

pub price-requires : goal.price-requires
price-requires c =
    let stop = c.stop_of-stop.ensures in
    let line : RateLine = record { rate = c.stop_of-stop.result; bidder = 0; amount = c.args.sought } in
    subst (λ (steps : _). HasPrice steps c.args.days.count) (stop.rate line)
    (c.requires.priced stop.place line stop.within)

pub invariant_of-result : goal.invariant_of-result
invariant_of-result c = record {
  in_range =
      omega (
        arith,
        c.par-below.ensures,
        par_on-le Less c.stop_of-stop.result.steps c.args.lines.now,
        c.requires.lines.fits,
      );
}

pub invariant_of-result-2 : goal.invariant_of-result-2
invariant_of-result-2 c = record {
  in_range =
      omega (
        arith,
        c.par-at_stop.ensures,
        par_on-le Equal c.stop_of-stop.result.steps c.args.lines.now,
        c.requires.lines.fits,
      );
}

pub returns : goal.returns
returns c =
    let line : RateLine = record { rate = c.stop_of-stop.result; bidder = 0; amount = c.args.sought } in
    let below = c.par-below.ensures ∙ par_on-is Less c.stop_of-stop.result.steps c.args.lines.now in
    let at_stop = c.par-at_stop.ensures ∙ par_on-is Equal c.stop_of-stop.result.steps c.args.lines.now in
    record {
      is =
          IsCut-stop c.requires.lines.order c.stop_of-stop.ensures c.percent_of.result.hundredths line
          c.requires.lines.amounts
          (rw (below, at_stop) at c.percent_of.ensures);
      price = c.price.ensures;
      below = below;
      at_stop = at_stop;
      sought_is = λ i. c.args.sought.value;
    }
