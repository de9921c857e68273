-- Open marks stand among those of which something is left.
use Rattle.std.proofs.Common.{ap, ◌∙◌}
use Rattle.tb_holdings.specs.Marks.{MarkList, open_marks_in}
use Rattle.tb_holdings.proofs.LeftLemmas.{order-left}
use Rattle.tb_holdings.proofs.MarkLemmas.{open_marks_in-left}
use Rattle.tb_holdings.proofs.marks.Marks.open_marks.Goals as goal

pub open_marks_by-requires : goal.open_marks_by-requires
open_marks_by-requires c =
    order-left c.self.inside.all.elements c.self.inside.live.elements c.self.invariant.0
    c.self.invariant.1

pub returns : goal.returns
returns c =
    c.open_marks_by.ensures
    ∙ (open_marks_in-left c.args.holder c.self.inside.all.elements c.self.inside.live.elements
    c.self.invariant.1
    ∙ ap (λ (marks : MarkList). open_marks_in c.args.holder marks.list) c.self.view_is)
