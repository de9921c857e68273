-- A release leaves less of one mark in both lists, or takes it out of those of which something is left.
use Rattle.std.proofs.Common.{List, filter, ap, sym, subst, ◌∙◌}
use Rattle.tb_holdings.specs.declared.mark.KeptMark.{KeptMark}
use Rattle.tb_holdings.specs.Marks.{MarksAreInOrder, has_left, released}
use Rattle.tb_holdings.proofs.LeftLemmas.{all-left, left-released, order-left, order-released}
use Rattle.tb_holdings.proofs.marks.Marks.release.Goals as goal

pub lower_mark-requires-clause-in_order : goal.lower_mark-requires-clause-in_order
lower_mark-requires-clause-in_order c =
    order-left c.self.inside.all.elements c.self.inside.live.elements c.self.invariant.0 c.self.invariant.1

pub lower_mark-requires-clause-left : goal.lower_mark-requires-clause-left
lower_mark-requires-clause-left c = all-left c.self.inside.all.elements c.self.inside.live.elements c.self.invariant.1

pub invariant_of-self : goal.invariant_of-self
invariant_of-self c =
    let all : List KeptMark = c.self.inside.all.elements in (
      subst MarksAreInOrder (sym c.release_mark.ensures.marks)
          (order-released c.args.holder c.args.number c.args.par all c.self.invariant.0),
      c.lower_mark.ensures.marks
          ∙ (ap (λ (ms : List KeptMark). filter has_left (released c.args.holder c.args.number c.args.par ms))
          c.self.invariant.1
          ∙ (left-released c.args.holder c.args.number c.args.par all
          ∙ ap (filter has_left) (sym c.release_mark.ensures.marks))),
    )
