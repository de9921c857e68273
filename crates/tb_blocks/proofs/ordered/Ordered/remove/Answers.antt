-- What is left keeps its order.
use Rattle.std.proofs.Common.{◌≡◌, ◌<◌, length, arith, ap}
use Rattle.std.specs.declared.cmp.Ordering.TheVariants.{Less}
use Rattle.tb_blocks.proofs.OrderLemmas.{AllPairs-remove}
use Rattle.tb_blocks.proofs.ordered.Ordered.remove.Goals as goal

pub invariant_of-self : goal.invariant_of-self
invariant_of-self g c =
    let elements = c.self.inside.list.elements in
    let is : c.self.inside.list.elements ≡ c.args.self.now.elements = λ i. (c.self.view_is i).elements in
    let some : c.in_ok-spot.spot.place < length elements =
    omega (arith, ap (λ l. length l) is, c.in_ok-spot.ensures.found.within) in
    rw c.remove_at.ensures.elements (AllPairs-remove
    (λ one other. g.T.Key.Ord.cmp (g.T.Keyed.key_of one) (g.T.Keyed.key_of other) ≡ Less)
    elements c.in_ok-spot.spot.place some c.self.invariant)

pub returns-clause-ordered : goal.returns-clause-ordered
returns-clause-ordered g c = invariant_of-self g c
