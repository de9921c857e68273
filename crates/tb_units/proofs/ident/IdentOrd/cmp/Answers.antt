-- Names stand in the order of their arrays.
use Rattle.std.proofs.Common.{◌∙◌}
use Rattle.std.specs.Ordering.{nat_cmp}
use Rattle.std.specs.Cmp.Lexicographic.{slice_cmp}
use Rattle.tb_units.proofs.NameLemmas.{padded-order}
use Rattle.tb_units.proofs.ident.IdentOrd.cmp.Goals as goal

pub returns : goal.returns
returns c =
    c.order.ensures
    ∙ padded-order c.self.inside.bytes c.other.inside.bytes c.self.inside.used c.other.inside.used
    c.self.invariant c.other.invariant
    ∙ (λ i. slice_cmp nat_cmp (c.self.view_is i) (c.other.view_is i))
