-- A line more is read.
use Rattle.std.proofs.Common.{◌≡◌, ◌+◌, ◌<◌, ◌++◌, ◌∷◌, [], ℕ, length, take, subst, ap, ◌∙◌, arith}
use Rattle.std.proofs.lemmas.List.{take_more}
use Rattle.std.proofs.lemmas.List.Elements.{All-nil}
use Rattle.tb_units.specs.declared.lines.RateLine.{RateLine}
use Rattle.tb_units.specs.LineOrder.{AreInOrder}
use Rattle.tb_award.specs.Recognition.{IsEarlier}
use Rattle.tb_award.proofs.SettleLemmas.{taken-within}
use Rattle.tb_award.proofs.PassLemmas.{AreInOrder-take, IsReading-next}
use Rattle.tb_award.proofs.recognising.recognise_lines.Goals as goal
use Rattle.tb_award.proofs.recognising.recognise_lines.Goals.{in-None, in-Some}

pub read_on-requires-clause-left : goal.read_on-requires-clause-left
read_on-requires-clause-left g c = taken-within (rw c.in-Some.is at c.loop-place.invariant.reading)

pub settle-requires-clause-left : goal.settle-requires-clause-left
settle-requires-clause-left g c = taken-within (rw c.in-Some-reading.is at c.loop-place.invariant.reading)

pub loop-place-preserved : goal.loop-place-preserved
loop-place-preserved g c =
    let lines = g.B.Lines.lines_of c.args.lines.now in
    let place = c.loop-place.place in
    let line = c.line-line.result in
    let bidders = length c.args.positions.now in
    let within : place < length lines = omega (arith, c.lines-place-end.ensures.count) in
    let known : line.bidder < length c.args.positions.now =
    subst (λ (l : RateLine). l.bidder < bidders) c.line-line.ensures.line (c.requires.known place line within) in
    let more : take (place + 1) lines ≡ take place lines ++ line ∷ [] =
    take_more lines place line within ∙ ap (λ (l : RateLine). take place lines ++ l ∷ []) c.line-line.ensures.line in
    let order : AreInOrder (take place lines ++ line ∷ []) =
    subst AreInOrder more (AreInOrder-take (place + 1) lines c.lines-place-end.ensures.order (omega arith)) in
    let none_before = All-nil (λ (l : RateLine). IsEarlier l line) in
    record {
      reading = elim c.match-reading.branch [
        | in-None w ↦
            (let none = rw w.in-None.is at c.loop-place.invariant.reading in
            let first : take (place + 1) lines ≡ [] ++ line ∷ [] =
            more ∙ ap (λ (n : ℕ). take n lines ++ line ∷ []) none.0 in
            rw (first, w.recognised-is, w.taken-is, w.reading-is)
            (IsReading-next none.1 line w.capped.result none_before known w.capped.ensures.same
            w.capped.ensures.amount))
        | in-Some w ↦
            (let reading = rw w.in-Some.is at c.loop-place.invariant.reading in
            rw (more, w.recognised-is, w.taken-is, w.reading-is)
            (w.read_on.ensures.reading (take place lines) order reading))
      ];
      room = elim c.match-reading.branch [
        | in-None w ↦ rw w.recognised-is c.loop-place.invariant.room
        | in-Some w ↦ rw w.recognised-is (w.read_on.ensures.room ∙ c.loop-place.invariant.room)
      ];
      taken_room = elim c.match-reading.branch [
        | in-None w ↦ rw w.taken-is c.loop-place.invariant.taken_room
        | in-Some w ↦ rw w.taken-is (w.read_on.ensures.taken_room ∙ c.loop-place.invariant.taken_room)
      ];
      steps = omega (arith, c.loop-place.invariant.steps, c.line-line.ensures.steps);
    }
