-- A redemption takes the marks of the security out of those of which something is left.
use Rattle.std.proofs.Common.{◌==◌, not, filter, ap, sym, subst, ◌∙◌}
use Rattle.tb_holdings.specs.declared.mark.KeptMark.{KeptMark}
use Rattle.tb_holdings.specs.Marks.{MarksAreInOrder, has_left}
use Rattle.tb_holdings.proofs.LeftLemmas.{left-cleared, order-cleared}
use Rattle.tb_holdings.proofs.marks.Marks.clear.Goals as goal

pub invariant_of-self : goal.invariant_of-self
invariant_of-self c = (
  subst MarksAreInOrder (sym c.clear_marks.ensures.marks)
      (order-cleared c.args.security c.self.inside.all.elements c.self.invariant.0),
  c.take_marks.ensures.marks
      ∙ (ap (filter (λ (mark : KeptMark). not (mark.security == c.args.security))) c.self.invariant.1
      ∙ (left-cleared c.args.security c.self.inside.all.elements
      ∙ ap (filter has_left) (sym c.clear_marks.ensures.marks))),
)
