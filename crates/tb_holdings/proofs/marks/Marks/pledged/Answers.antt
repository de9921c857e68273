-- What is pledged stands among the marks of which something is left.
use Rattle.std.proofs.Common.{ap, ◌∙◌, arith}
use Rattle.tb_holdings.specs.Marks.{MarkList, pledged_in}
use Rattle.tb_holdings.proofs.LeftLemmas.{order-left}
use Rattle.tb_holdings.proofs.MarkLemmas.{pledged_in-left}
use Rattle.tb_holdings.proofs.marks.Marks.pledged.Goals as goal

pub pledged_by-requires-clause-in_order : goal.pledged_by-requires-clause-in_order
pledged_by-requires-clause-in_order c =
    order-left c.self.inside.all.elements c.self.inside.live.elements c.self.invariant.0
    c.self.invariant.1

pub pledged_by-requires-clause-fits : goal.pledged_by-requires-clause-fits
pledged_by-requires-clause-fits c =
    omega (
      arith,
      pledged_in-left c.args.holder c.args.security c.self.inside.all.elements c.self.inside.live.elements
          c.self.invariant.1,
      ap (λ (marks : MarkList). pledged_in c.args.holder c.args.security marks.list) c.self.view_is,
      c.requires,
    )

pub returns : goal.returns
returns c =
    c.pledged_by.ensures
    ∙ (pledged_in-left c.args.holder c.args.security c.self.inside.all.elements c.self.inside.live.elements
    c.self.invariant.1
    ∙ ap (λ (marks : MarkList). pledged_in c.args.holder c.args.security marks.list) c.self.view_is)
