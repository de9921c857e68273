-- The elements with smaller keys come first.
use Rattle.std.proofs.Common.{◌≡◌}
use Rattle.tb_blocks.proofs.OrderLemmas.{partitioned-order, parted-keys}
use Rattle.tb_blocks.proofs.ordered.Ordered.place_of.Goals as goal

pub returns-clause-place : goal.returns-clause-place
returns-clause-place g c =
    let elements = c.self.inside.list.elements in
    let parts = c.spot_of.ensures.place
    (partitioned-order g.T.Key.Ord.cmp g.T.Keyed.key_of c.args.key.now elements g.met.T.Key.Ord.total
    c.self.invariant) in
    let is : c.self.inside.list.elements ≡ c.args.self.now.elements = λ i. (c.self.view_is i).elements in
    rw (← is) (parted-keys g.T.Key.Ord.cmp g.T.Keyed.key_of c.args.key.now elements c.spot_of.result.place parts)
