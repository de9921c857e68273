-- One award more is added.
use Rattle.std.proofs.Common.{◌≡◌, ◌+◌, ◌∷◌, [], ◌++◌, List, take, sym, subst, ap, ◌∙◌, refl, arith}
use Rattle.std.proofs.lemmas.List.{take_more, take_all}
use Rattle.tb_units.specs.declared.lines.RateLine.{RateLine}
use Rattle.tb_award.specs.Stops.{AwardsSumTo}
use Rattle.tb_award.proofs.AwardLemmas.{AreAwards_push, total_of_push}
use Rattle.tb_award.proofs.RateLemmas.{sum-fits}
use Rattle.tb_award.proofs.rates.sum_of.Goals as goal

pub overflow_add-sum : goal.overflow_add-sum
overflow_add-sum c =
    let so_far = c.loop-line in
    let fits =
    sum-fits c.args.cut.now c.args.lines.now so_far.line-index so_far.sum c.requires.amounts c.requires.fits
    so_far.invariant in
    omega (arith, fits, c.award-sum.result.in_range)

pub loop-line-preserved : goal.loop-line-preserved
loop-line-preserved c =
    let lines = c.args.lines.now in
    let k = c.loop-line.line-index in
    let line = c.line-item.result in
    let award : RateLine = record { rate = line.rate; bidder = line.bidder; amount = c.award-sum.result } in
    let so_far = c.loop-line.invariant in
    let cut = c.args.cut.now in
    let step : take (k + 1) lines ≡ take k lines ++ line ∷ [] =
    take_more lines k line c.loop-line-test.true ∙ ap (λ (l : RateLine). take k lines ++ l ∷ []) (sym c.line-item.is) in
    subst (λ (ls : List RateLine). AwardsSumTo c.args.cut.now ls (c.loop-line.sum + c.award-sum.result.value))
    (sym step) (
      so_far.0 ++ award ∷ [],
      AreAwards_push cut.stop.steps cut.percent.hundredths
          (take k lines) so_far.0 line award so_far.1 refl refl c.award-sum.ensures,
      omega (arith, so_far.2, total_of_push so_far.0 award),
    )

pub returns : goal.returns
returns c =
    let lines = c.args.lines.now in
    let all : take c.loop-line.line-index lines ≡ lines = take_all c.loop-line.line-index lines (omega arith) in
    subst (λ (ls : List RateLine). AwardsSumTo c.args.cut.now ls c.loop-line.sum) all c.loop-line.invariant
