-- The element stands where its key belongs.
use Rattle.std.proofs.Common.{◌≡◌}
use Rattle.tb_blocks.proofs.OrderLemmas.{ordered-added}
use Rattle.tb_blocks.proofs.ordered.Ordered.add.Goals as goal

pub invariant_of-self : goal.invariant_of-self
invariant_of-self g c =
    let is : c.self.inside.list.elements ≡ c.args.self.now.elements = λ i. (c.self.view_is i).elements in
    rw c.insert_at.ensures.elements (ordered-added g.T.Key.Ord.cmp g.T.Keyed.key_of c.key-key.result
    c.self.inside.list.elements c.args.element c.in-Err.spot.place g.met.T.Key.Ord.total c.self.invariant
    c.key-key.ensures (rw is c.in-Err.ensures.within) (rw is c.in-Err.ensures.place) (rw is c.in-Err.ensures.none))

pub returns-clause-ordered : goal.returns-clause-ordered
returns-clause-ordered g c =
    let is : c.self.inside.list.elements ≡ c.args.self.now.elements = λ i. (c.self.view_is i).elements in
    rw c.insert_at.ensures.elements (ordered-added g.T.Key.Ord.cmp g.T.Keyed.key_of c.key-key.result
    c.self.inside.list.elements c.args.element c.in-Err.spot.place g.met.T.Key.Ord.total c.self.invariant
    c.key-key.ensures (rw is c.in-Err.ensures.within) (rw is c.in-Err.ensures.place) (rw is c.in-Err.ensures.none))
