-- A mark of the security is taken out at its place.
use Rattle.std.proofs.Common.{◌-◌, ◌<◌, ◌==◌, length, not, ap, sym, ◌∙◌, eq-eqb, arith}
use Rattle.tb_holdings.specs.declared.mark.KeptMark.{KeptMark}
use Rattle.tb_holdings.proofs.KeyLemmas.{AreKeyed-order, HasKeyAt-read, removed-at}
use Rattle.tb_holdings.proofs.MarkLemmas.{mark_key}
use Rattle.tb_holdings.proofs.WalkLemmas.{length-walked, walked-out}
use Rattle.tb_holdings.proofs.mark.take_marks.Goals as goal

pub loop-place-preserved-then-mark-security : goal.loop-place-preserved-then-mark-security
loop-place-preserved-then-mark-security c =
    let test = λ (mark : KeptMark). not (mark.security == c.args.security) in
    let all = c.args.marks.now.elements in
    let left = c.loop-place.marks.elements in
    let after = c.loop-place.place in
    let place = after - 1 in
    let mark = c.at-mark.result.now in
    let some = c.loop-place-test.true in
    let so_far = c.loop-place.invariant in
    let within : place < length left = omega (arith, some, length-walked test after all left so_far.walked) in
    record {
      walked = record {
        is = removed-at mark_key (mark_key mark) left c.remove.new.self.elements place c.remove.result so_far.in_order
            (HasKeyAt-read mark_key left place mark within c.at-mark.ensures)
            (record { none = c.remove.ensures.none.0; removed = c.remove.ensures.removed; same = c.remove.ensures.key })
            ∙ walked-out test place after all left mark so_far.walked (omega (arith, some))
            (ap test (sym c.at-mark.ensures)
            ∙ ap not (eq-eqb mark.security c.args.security c.if-mark-security.true));
        within = omega (arith, so_far.walked.within);
      };
      in_order = AreKeyed-order mark_key c.remove.new.self.elements c.remove.ensures.ordered;
      spare = c.remove.ensures.spare ∙ so_far.spare;
    }
