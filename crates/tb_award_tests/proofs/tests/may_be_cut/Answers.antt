use Rattle.std.proofs.Common.{◌≡◌, ◌+◌, ◌<◌, ◌∷◌, [], ◌++◌, length, take, get_or}
use Rattle.std.proofs.Common.{sym, subst, ap, ◌∙◌, refl, arith, inl, inr}
use Rattle.std.proofs.lemmas.Bool.{cases_lt}
use Rattle.std.proofs.lemmas.List.{get_or_default, take_more}
use Rattle.std.proofs.lemmas.List.Sums.{sum_by_push}
use Rattle.tb_units.specs.declared.lines.RateLine.{RateLine}
use Rattle.tb_price.specs.Prices.{HasPrice}
use Rattle.tb_award.specs.Cuts.{amount_of, total_of}
use Rattle.tb_award_tests.proofs.tests.may_be_cut.Goals as goal

pub loop-place-preserved : goal.loop-place-preserved
loop-place-preserved c =
    let lines = c.args.recognised.now.lines in
    let place = c.loop-place.place in
    let line = c.line-line.result in
    let days = c.args.days.count in
    let below : place < length lines = omega (arith, c.loop-place-test.true, c.count-place-end.ensures) in
    let step : take (place + 1) lines ≡ take place lines ++ line ∷ [] =
    take_more lines place line below ∙ ap (λ last. take place lines ++ last ∷ []) c.line-line.ensures in
    record {
      sum =
          ap (λ n. n + line.amount.value) c.loop-place.invariant.sum
          ∙ sym (ap total_of step ∙ sum_by_push amount_of (take place lines) line);
      fits = omega arith;
      priced = λ k d within. elim (cases_lt k place) [
        | inl less ↦ c.loop-place.invariant.priced k d less
        | inr more ↦
            (let same : place ≡ k = omega arith in
            let here : line ≡ get_or lines k d =
            sym c.line-line.ensures ∙ get_or_default lines place line d below ∙ ap (λ n. get_or lines n d) same in
            subst (λ (l : RateLine). HasPrice l.rate.steps days) here (c.if-not-above_zero.ensures.price.0 refl))
      ];
    }
