-- The holder's marks stand together, and what each run of them pledges is added up.
use Rattle.std.proofs.Common.{ap, sym, ◌∙◌, arith}
use Rattle.std.proofs.lemmas.List.{get_or_default}
use Rattle.tb_holdings.specs.Marks.{is_own, pledged_in}
use Rattle.tb_holdings.proofs.MarkLemmas.{IsOwnSum-pledged, figure-all, figure-first, left_share}
use Rattle.tb_holdings.proofs.WalkLemmas.{IsCounted, IsCounted-run}
use Rattle.tb_holdings.proofs.mark.pledged_by.Goals as goal
use Rattle.tb_holdings.proofs.mark.pledged_by.Goals.{After-run_from-run}

pub loop-place-init : goal.loop-place-init
loop-place-init c = (
  omega arith,
  c.mark_place_of-place.ensures.within,
  sym (figure-first c.args.holder (left_share c.args.holder c.args.security) (pledged_in c.args.holder c.args.security)
      c.args.marks.now.elements c.mark_place_of-place.result (IsOwnSum-pledged c.args.holder c.args.security)
      c.mark_place_of-place.ensures),
)

-- what the run pledges is counted
counted : (c : After-run_from-run)
    → IsCounted (pledged_in c.args.holder c.args.security) c.loop-place.place c.args.marks.now.elements
    c.run_from-run.result.now
counted c =
    IsCounted-run (left_share c.args.holder c.args.security) (pledged_in c.args.holder c.args.security)
    c.loop-place.place c.args.marks.now.elements c.run_from-run.result.now
    (IsOwnSum-pledged c.args.holder c.args.security).sum c.run_from-run.ensures

pub pledged_among-pledged-requires : goal.pledged_among-pledged-requires
pledged_among-pledged-requires c = omega (arith, (counted c).more, (counted c).part, c.requires.fits)

pub overflow_add-pledged : goal.overflow_add-pledged
overflow_add-pledged c =
    let sum = counted (goal.at.overflow_add-pledged c).After-run_from-run in
    omega (arith, sum.more, sum.part, c.loop-place.invariant.2, c.pledged_among-pledged.ensures, c.requires.fits)

pub loop-place-preserved : goal.loop-place-preserved
loop-place-preserved c =
    let sum = counted (goal.at.loop-place-preserved c).After-run_from-run in (
      omega (arith, c.loop-place.invariant.0),
      c.run_from-run.ensures.within,
      omega (arith, sum.more, c.loop-place.invariant.2, c.pledged_among-pledged.ensures),
    )

pub returns-else-is_own : goal.returns-else-is_own
returns-else-is_own c =
    c.loop-place.invariant.2
    ∙ figure-all c.args.holder (left_share c.args.holder c.args.security) (pledged_in c.args.holder c.args.security)
    c.args.marks.now.elements c.mark_place_of-place.result c.loop-place.place
    (IsOwnSum-pledged c.args.holder c.args.security) (record {
      in_order = c.requires.in_order;
      begun = c.mark_place_of-place.ensures;
      from = c.loop-place.invariant.0;
      other = λ d short.
          let marks = c.args.marks.now.elements in
          let read = c.at.ensures ∙ get_or_default marks c.loop-place.place c.at.result.now d short in
          sym (ap (is_own c.args.holder) read) ∙ (sym c.is_own.ensures ∙ c.if-is_own.false);
    })
