-- A line's award is added at its bidder's number.
use Rattle.std.proofs.Common.{◌≡◌, ℕ, ◌+◌, ◌<◌, ◌==◌, cond, refl, sym, ap, subst, ◌∙◌, arith, eq-eqb}
use Rattle.std.proofs.Common.{List, length, take, get_or}
use Rattle.std.proofs.lemmas.List.{take_all}
use Rattle.std.proofs.lemmas.List.Elements.{All-take}
use Rattle.std.proofs.lemmas.List.Sums.{sum_by-take-le}
use Rattle.tb_units.specs.declared.lines.RateLine.{RateLine}
use Rattle.tb_award.specs.Awards.{IsInHundreds}
use Rattle.tb_award.specs.Cuts.{amount_of}
use Rattle.tb_results.specs.Outcomes.{IsRaisedBy}
use Rattle.tb_results.proofs.AmountLemmas.{raised-more}
use Rattle.tb_results.proofs.AwardedLemmas.{AwardsComeTo-none, awards-within}
use Rattle.tb_results.proofs.amounts.add_awards.Goals as goal

pub loop-place-init : goal.loop-place-init
loop-place-init c = record {
  awards = λ k below. (0, AwardsComeTo-none c.args.cut.now k, omega arith);
  count = refl;
  room = refl;
}

pub add_award-requires-clause-known : goal.add_award-requires-clause-known
add_award-requires-clause-known c =
    let line = c.line-line.result in
    let known : line.bidder < length c.args.amounts.now.items =
    subst (λ (l : RateLine). l.bidder < length c.args.amounts.now.items) c.line-line.ensures
    (c.requires.known c.loop-place.place line (omega arith)) in
    omega (arith, known, c.loop-place.invariant.count)

pub add_award-requires-clause-fits : goal.add_award-requires-clause-fits
add_award-requires-clause-fits c =
    let lines = c.args.recognised.now.lines in
    let place = c.loop-place.place in
    let line = c.line-line.result in
    let award = c.award.result.value in
    let old : ℕ = get_or c.args.amounts.now.items line.bidder 0 in
    let now : ℕ = get_or c.loop-place.amounts.items line.bidder 0 in
    let known : line.bidder < length c.args.amounts.now.items =
    subst (λ (l : RateLine). l.bidder < length c.args.amounts.now.items) c.line-line.ensures
    (c.requires.known place line (omega arith)) in
    let own : cond (line.bidder == line.bidder) award 0 ≡ award =
    ap (λ b. cond b award 0) (eq-eqb line.bidder line.bidder refl) in
    let more : ℕ = now + cond (line.bidder == line.bidder) award 0 in
    let raised : IsRaisedBy c.args.cut.now (take (place + 1) lines) line.bidder old more =
    raised-more c.args.cut.now lines place line c.award.result line.bidder old now (omega arith) c.line-line.ensures
    (c.loop-place.invariant.awards line.bidder known) c.award.ensures in
    omega (
      arith,
      raised.2,
      own,
      awards-within c.args.cut.now (take (place + 1) lines) line.bidder raised.0
          (All-take IsInHundreds (place + 1) lines c.requires.hundreds) raised.1,
      sum_by-take-le amount_of lines (place + 1),
      c.requires.fits line.bidder known,
    )

pub loop-place-preserved : goal.loop-place-preserved
loop-place-preserved c =
    let line = c.line-line.result in
    record {
      awards = λ k below.
          let old : ℕ = get_or c.args.amounts.now.items k 0 in
          let next = c.loop-place.place + 1 in
          subst (λ (n : ℕ). IsRaisedBy c.args.cut.now (take next c.args.recognised.now.lines) k old n)
          (sym (c.add_award.ensures.added k (omega (arith, below, c.loop-place.invariant.count))))
          (raised-more c.args.cut.now c.args.recognised.now.lines c.loop-place.place line c.award.result k old
          (get_or c.loop-place.amounts.items k 0) (omega arith) c.line-line.ensures
          (c.loop-place.invariant.awards k below) c.award.ensures);
      count = c.add_award.ensures.count ∙ c.loop-place.invariant.count;
      room = c.add_award.ensures.room ∙ c.loop-place.invariant.room;
    }

pub returns-clause-awards : goal.returns-clause-awards
returns-clause-awards c k below =
    let lines = c.args.recognised.now.lines in
    subst (λ (ls : List RateLine).
    IsRaisedBy c.args.cut.now ls k (get_or c.args.amounts.now.items k 0) (get_or c.loop-place.amounts.items k 0))
    (take_all c.loop-place.place lines (omega arith)) (c.loop-place.invariant.awards k below)
