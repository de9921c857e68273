-- A release leaves less of one mark.
use Rattle.std.proofs.Common.{ap, ◌∙◌}
use Rattle.tb_holdings.specs.Marks.{mark_in}
use Rattle.tb_holdings.proofs.MarkLemmas.{mark_in-released}
use Rattle.tb_holdings.proofs.KeptLemmas.{AreKept-released}
use Rattle.tb_holdings.proofs.accounts.Accounts.release.Goals as goal

pub invariant_of-self : goal.invariant_of-self
invariant_of-self c =
    let inside = c.self.inside in (
      rw c.release.ensures.list
          (AreKept-released c.args.holder c.args.number c.args.par.value
          inside.accounts.elements inside.marks.list inside.redeemed.items inside.paid.items c.self.invariant.0),
      c.self.invariant.1,
      c.self.invariant.2,
      c.self.invariant.3,
    )

pub returns-clause-left : goal.returns-clause-left
returns-clause-left c =
    rw (← c.self.view_is)
    (ap (mark_in c.args.holder c.args.number) c.release.ensures.list
    ∙ mark_in-released c.args.holder c.args.number c.args.par.value c.self.inside.marks.list)

pub returns-clause-laws : goal.returns-clause-laws
returns-clause-laws c = (invariant_of-self c).0
