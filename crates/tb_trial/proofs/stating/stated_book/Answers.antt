-- The bids are added one after the other.
use Rattle.std.proofs.Common.{◌≡◌, ℕ, refl, ap, ◌∙◌, subst, arith}
use Rattle.std.specs.Prelude.{IsPermutation}
use Rattle.std.proofs.lemmas.List.Sorted.{IsPermutation-trans}
use Rattle.tb_book.specs.declared.book_line.BookLine.{BookLine}
use Rattle.tb_trial.specs.Trials.{drawn_for, trial_bidding}
use Rattle.tb_trial.proofs.StatedLemmas.{drawn_for-next, later-none, lines_to, lines_to-added, lines_to-kept, lines_to-none, par-limited, stated-amount}
use Rattle.tb_trial.proofs.stating.stated_book.Goals as goal

pub loop-stated-init : goal.loop-stated-init
unfolding drawn_for
loop-stated-init c = record {
  drawn = refl;
  booked = lines_to-none c.args.seed c.sealed-book.result.lines c.sealed-book.ensures.lines;
}

pub add-requires-clause-room : goal.add-requires-clause-room
add-requires-clause-room c = omega (arith, c.in_ok-make_room.ensures.room)

pub add-requires-clause-new : goal.add-requires-clause-new
add-requires-clause-new c =
    later-none c.args.seed c.loop-stated.stated _ _ _
    (lines_to-kept c.args.seed c.loop-stated.stated _ _ c.make_room.ensures.lines c.loop-stated.invariant.booked)
    (omega (arith, ap (λ (line : BookLine). line.number) c.stated_line.ensures))

pub add-requires-clause-fits : goal.add-requires-clause-fits
add-requires-clause-fits c =
    omega (
      arith,
      par-limited c.args.seed c.loop-stated.stated c.make_room.new.book.lines
          (lines_to-kept c.args.seed c.loop-stated.stated _ _ c.make_room.ensures.lines c.loop-stated.invariant.booked),
      ap (λ (line : BookLine). line.amount.value) c.stated_line.ensures,
      stated-amount c.next-drawn.result,
    )

pub loop-stated-preserved : goal.loop-stated-preserved
loop-stated-preserved c =
    let drawn = c.next-drawn.ensures ∙ drawn_for-next c.args.seed c.loop-stated.stated _
    c.loop-stated.invariant.drawn in
    let booked = lines_to-kept c.args.seed c.loop-stated.stated _ _ c.make_room.ensures.lines
    c.loop-stated.invariant.booked in
    record {
      drawn = drawn;
      booked = lines_to-added c.args.seed c.loop-stated.stated c.next-drawn.result c.stated_line.result _ _ drawn
          c.stated_line.ensures booked c.add.ensures.elements;
    }

pub returns-clause-booked : goal.returns-clause-booked
unfolding trial_bidding
returns-clause-booked c =
    let all : c.loop-stated.stated ≡ c.args.count = omega arith in
    IsPermutation-trans (lines_to c.args.seed c.args.count) c.loop-stated.book.lines c.unseal.new.self.lines
    (subst (λ (n : ℕ). IsPermutation (lines_to c.args.seed n) c.loop-stated.book.lines) all
    c.loop-stated.invariant.booked) c.unseal.ensures.elements
