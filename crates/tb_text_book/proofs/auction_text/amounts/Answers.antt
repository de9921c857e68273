use Rattle.std.proofs.Common.{◌≡◌, ◌+◌, ◌<◌, List, ◌∷◌, [], ◌++◌, length, take, set, slice_index, sym, ap, subst, ◌∙◌, refl, arith}
use Rattle.std.proofs.lemmas.Grind.{get_or_default_zero}
use Rattle.std.proofs.lemmas.List.{take_more, length-take-le, take_all}
use Rattle.std.proofs.lemmas.List.Sums.{sum_by-take-le}
use Rattle.tb_units.specs.declared.lines.RateLine.{RateLine}
use Rattle.tb_award.specs.Awards.{AreAwards}
use Rattle.tb_award.specs.Cuts.{amount_of}
use Rattle.tb_text_book.proofs.AwardLemmas.{AmountsSoFar, amounts-more, amounts-within}
use Rattle.tb_text_book.proofs.auction_text.amounts.Goals as goal

pub overflow_add-index_mut : goal.overflow_add-index_mut
overflow_add-index_mut c =
    let lines = c.args.recognised.now.lines in
    let k = c.loop-place.place in
    let line = c.line-line.result in
    let known : line.bidder < length c.args.sums.now =
    subst (λ (l : RateLine). l.bidder < length c.args.sums.now) c.line-line.ensures
    (c.requires.known k line (omega arith)) in
    let here : c.index_mut.result.now ≡ slice_index c.loop-place.amounts.items line.bidder =
    c.index_mut.ensures.value
    ∙ get_or_default_zero c.loop-place.amounts.items line.bidder c.index_mut.result.now
    (omega (arith, known, c.loop-place.invariant.size)) in
    omega (
      arith,
      here,
      amounts-within c.args.cut.now.stop.steps c.args.cut.now.percent.hundredths (take k lines) c.args.sums.now
          c.loop-place.amounts.items line.bidder 0 c.loop-place.invariant known,
      sum_by-take-le amount_of lines k,
      c.requires.fits,
      length-take-le k lines (omega arith),
      c.requires.sums line.bidder 0 known,
      c.award.result.in_range,
    )

pub loop-place-preserved : goal.loop-place-preserved
loop-place-preserved c =
    let lines = c.args.recognised.now.lines in
    let k = c.loop-place.place in
    let line = c.line-line.result in
    let known : line.bidder < length c.args.sums.now =
    subst (λ (l : RateLine). l.bidder < length c.args.sums.now) c.line-line.ensures
    (c.requires.known k line (omega arith)) in
    let here : c.index_mut.result.now ≡ slice_index c.loop-place.amounts.items line.bidder =
    c.index_mut.ensures.value
    ∙ get_or_default_zero c.loop-place.amounts.items line.bidder c.index_mut.result.now
    (omega (arith, known, c.loop-place.invariant.size)) in
    let step : take (k + 1) lines ≡ take k lines ++ line ∷ [] =
    take_more lines k line (omega arith) ∙ ap (λ x. take k lines ++ x ∷ []) c.line-line.ensures in
    let award : RateLine = record { rate = line.rate; bidder = line.bidder; amount = c.award.result } in
    subst (λ (ls : List RateLine). AmountsSoFar c.args.cut.now.stop.steps c.args.cut.now.percent.hundredths ls
    c.args.sums.now (set c.loop-place.amounts.items line.bidder (c.index_mut.result.now + c.award.result.value)))
    (sym step)
    (amounts-more c.args.cut.now.stop.steps c.args.cut.now.percent.hundredths (take k lines) line award
    c.args.sums.now c.loop-place.amounts.items (c.index_mut.result.now + c.award.result.value) c.loop-place.invariant
    record {
      small = c.args.cut.now.percent.in_range;
      known = known;
      rate = refl;
      bidder = refl;
      is = c.award.ensures;
      amount_is = ap (λ n. n + c.award.result.value) here;
    })

pub returns : goal.returns
returns c =
    let lines = c.args.recognised.now.lines in
    let k = c.loop-place.place in
    let so_far = c.loop-place.invariant in
    let all : take k lines ≡ lines = take_all k lines (omega arith) in
    record {
      awards = so_far.awards;
      awarded = subst (λ (ls : List RateLine). AreAwards c.args.cut.now.stop.steps c.args.cut.now.percent.hundredths
          ls so_far.awards) all so_far.awarded;
      size = so_far.size;
      are = so_far.are;
      fit = λ b d below.
          omega (
            arith,
            get_or_default_zero c.loop-place.amounts.items b d below,
            amounts-within c.args.cut.now.stop.steps c.args.cut.now.percent.hundredths (take k lines) c.args.sums.now
                c.loop-place.amounts.items b 0 so_far (omega (arith, below, so_far.size)),
            sum_by-take-le amount_of lines k,
            c.requires.fits,
            length-take-le k lines (omega arith),
            c.requires.sums b 0 (omega (arith, below, so_far.size)),
          );
    }
