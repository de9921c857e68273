-- Each mark of the security of which something is left is written over, and the others stay.
use Rattle.std.proofs.Common.{◌≡◌, ◌<◌, ◌==◌, List, get_or, set, length, ap, sym, subst, ◌∙◌, eq-eqb, arith}
use Rattle.std.proofs.lemmas.Bool.{cond-true}
use Rattle.std.proofs.lemmas.List.{length-set}
use Rattle.tb_holdings.specs.declared.mark.KeptMark.{KeptMark}
use Rattle.tb_holdings.specs.Marks.{after_redemption, cleared}
use Rattle.tb_holdings.proofs.MarkLemmas.{cleared_same, with_left-all, with_left-kept, with_left-more}
use Rattle.tb_holdings.proofs.mark.clear_marks.Goals as goal
use Rattle.tb_holdings.proofs.mark.clear_marks.Goals.{then-mark-security+then-mark-gt0, else-mark-security}

pub loop-place-preserved : goal.loop-place-preserved
loop-place-preserved c =
    let old : List KeptMark = c.args.marks.now.elements in
    let written : List KeptMark = c.loop-place.marks.elements in
    let place = c.loop-place.place in
    let mark : KeptMark = c.at-mark.result.now in
    let own : KeptMark = get_or written place mark in
    let after = after_redemption c.args.security in
    let short : place < length old = omega (arith, c.loop-place-test.true, c.len-place-end.ensures.len) in
    let so_far = c.loop-place.invariant in
    elim c.if-mark-security.branch [
      | then-mark-security+then-mark-gt0 w ↦
          let zeroed : KeptMark = record mark { left = 0 } in
          let same : own.security ≡ c.args.security =
          ap (λ (one : KeptMark). one.security) (sym c.at-mark.ensures) ∙ w.if-mark-security.true in
          rw w.marks-is (
            (rw w.at.ensures at w.replace_at.ensures.elements)
                ∙ (ap (λ (one : KeptMark). set written place (record one { left = 0 })) c.at-mark.ensures
                ∙ with_left-more after old written place 0 mark short so_far.1 so_far.0
                (cond-true (own.security == c.args.security) 0 own.left
                (eq-eqb own.security c.args.security same))),
            ap length (rw w.at.ensures at w.replace_at.ensures.elements) ∙ (length-set written place zeroed ∙ so_far.1),
            w.replace_at.ensures.spare ∙ so_far.2,
          )
      | else-mark-security w ↦
          rw w.marks-is (
            with_left-kept after old written place mark short so_far.1 so_far.0
                (subst (λ (one : KeptMark). after one ≡ one.left) c.at-mark.ensures
                (cleared_same c.args.security mark w.else-mark-security.either)),
            so_far.1,
            so_far.2,
          )
    ]

pub returns-clause-marks : goal.returns-clause-marks
unfolding cleared
returns-clause-marks c =
    c.loop-place.invariant.0
    ∙ with_left-all (after_redemption c.args.security) c.args.marks.now.elements c.loop-place.place
    (omega (arith, c.loop-place-test.false, c.len-place-end.ensures.len))
