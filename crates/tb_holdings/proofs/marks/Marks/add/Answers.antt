-- A mark of which something is left stands in both lists.
use Rattle.std.proofs.Common.{◌≡◌, true, filter, ap, sym, subst, ◌∙◌, arith}
use Rattle.std.proofs.lemmas.Bool.Decides.{nat_tests}
use Rattle.tb_holdings.specs.Marks.{MarksAreInOrder, has_left, mark_in, with_mark}
use Rattle.tb_holdings.proofs.LeftLemmas.{left-none, left-with_mark, order-left}
use Rattle.tb_holdings.proofs.MarkLemmas.{MarksAreInOrder-with_mark}
use Rattle.tb_holdings.proofs.marks.Marks.add.Goals as goal

pub add_mark-requires-2-clause-in_order : goal.add_mark-requires-2-clause-in_order
add_mark-requires-2-clause-in_order c =
    order-left c.self.inside.all.elements c.self.inside.live.elements c.self.invariant.0 c.self.invariant.1

pub add_mark-requires-2-clause-new : goal.add_mark-requires-2-clause-new
add_mark-requires-2-clause-new c =
    let new = rw (← c.self.view_is) at c.requires.new in
    ap (mark_in c.args.mark.holder c.args.mark.number) c.self.invariant.1
    ∙ left-none c.args.mark.holder c.args.mark.number c.self.inside.all.elements new

pub invariant_of-self : goal.invariant_of-self
invariant_of-self c =
    let some = c.requires.left in
    let left : has_left c.args.mark ≡ true = grind (arith, nat_tests) in (
      subst MarksAreInOrder (sym c.add_mark.ensures.marks)
          (MarksAreInOrder-with_mark c.args.mark c.self.inside.all.elements c.self.invariant.0),
      c.add_mark-2.ensures.marks
          ∙ (ap (with_mark c.args.mark) c.self.invariant.1
          ∙ (left-with_mark c.args.mark c.self.inside.all.elements left
          ∙ ap (filter has_left) (sym c.add_mark.ensures.marks))),
    )
