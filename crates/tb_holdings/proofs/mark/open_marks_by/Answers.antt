-- The holder's marks stand together, and those of each run that are open are added up.
use Rattle.std.proofs.Common.{ap, sym, ◌∙◌, arith}
use Rattle.std.proofs.lemmas.List.{get_or_default}
use Rattle.tb_holdings.specs.Marks.{is_own, open_marks_in}
use Rattle.tb_holdings.proofs.MarkLemmas.{IsOwnSum-open, figure-all, figure-first, open_share}
use Rattle.tb_holdings.proofs.WalkLemmas.{IsCounted-run}
use Rattle.tb_holdings.proofs.mark.open_marks_by.Goals as goal

pub loop-place-init : goal.loop-place-init
loop-place-init c = (
  omega arith,
  c.mark_place_of-place.ensures.within,
  sym (figure-first c.args.holder (open_share c.args.holder) (open_marks_in c.args.holder) c.args.marks.now.elements
      c.mark_place_of-place.result (IsOwnSum-open c.args.holder) c.mark_place_of-place.ensures),
)

pub loop-place-preserved : goal.loop-place-preserved
loop-place-preserved c =
    let counted = IsCounted-run (open_share c.args.holder) (open_marks_in c.args.holder) c.loop-place.place
    c.args.marks.now.elements c.run_from-run.result.now (IsOwnSum-open c.args.holder).sum c.run_from-run.ensures in (
      omega (arith, c.loop-place.invariant.0),
      c.run_from-run.ensures.within,
      omega (arith, counted.more, c.loop-place.invariant.2, c.open_among-open.ensures),
    )

pub returns-else-is_own : goal.returns-else-is_own
returns-else-is_own c =
    c.loop-place.invariant.2
    ∙ figure-all c.args.holder (open_share c.args.holder) (open_marks_in c.args.holder) c.args.marks.now.elements
    c.mark_place_of-place.result c.loop-place.place (IsOwnSum-open c.args.holder) (record {
      in_order = c.requires;
      begun = c.mark_place_of-place.ensures;
      from = c.loop-place.invariant.0;
      other = λ d short.
          let marks = c.args.marks.now.elements in
          let read = c.at.ensures ∙ get_or_default marks c.loop-place.place c.at.result.now d short in
          sym (ap (is_own c.args.holder) read) ∙ (sym c.is_own.ensures ∙ c.if-is_own.false);
    })
