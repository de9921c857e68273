-- the marks of the security from the place on were taken out
use Rattle.std.proofs.Common.{◌≡◌, ◌==◌, not}
use Rattle.tb_holdings.specs.Marks.{MarksAreInOrder}
use Rattle.tb_holdings.proofs.WalkLemmas.{IsWalked}
use Rattle.tb_holdings.proofs.mark.take_marks.Given as goal

abbrev pub invariant-loop-place : goal.invariant-loop-place
invariant-loop-place l = record {
  walked : IsWalked (λ mark. not (mark.security == l.security)) l.place l.initial.marks.elements l.marks.elements;
  in_order : MarksAreInOrder l.marks.elements;
  spare : l.marks.spare ≡ l.initial.marks.spare;
}
