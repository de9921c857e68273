-- The element stands where its key belongs.
use Rattle.std.proofs.Common.{◌≡◌}
use Rattle.tb_blocks.specs.Orders.{HasKey}
use Rattle.tb_blocks.proofs.OrderLemmas.{partitioned-order, ordered-insert}
use Rattle.tb_blocks.proofs.ordered.Ordered.insert.Goals as goal

pub invariant_of-self : goal.invariant_of-self
invariant_of-self g c =
    let elements = c.self.inside.list.elements in
    let compare = g.T.Key.Ord.cmp in
    let key_of = g.T.Keyed.key_of in
    let key = key_of c.args.element in
    let is : c.self.inside.list.elements ≡ c.args.self.now.elements = λ i. (c.self.view_is i).elements in
    let parts = rw c.key-key.ensures at
    (c.spot_of-spot.ensures.place
    (partitioned-order compare key_of c.key-key.result elements g.met.T.Key.Ord.total c.self.invariant)) in
    let new : ¬ (HasKey compare key_of key elements) = rw is c.requires.new in
    rw c.insert_at.ensures.elements (ordered-insert compare key_of elements c.spot_of-spot.result.place c.args.element
    g.met.T.Key.Ord.total c.self.invariant c.spot_of-spot.ensures.within parts new)

pub returns-clause-ordered : goal.returns-clause-ordered
returns-clause-ordered g c = invariant_of-self g c
