-- No rows have no counts, no ends and no links.
use Rattle.tb_index.proofs.EndLemmas.{AreCounts-nil, AreEnds-nil}
use Rattle.tb_index.proofs.LinkLemmas.{AreLinks-nil}
use Rattle.tb_index.proofs.chained.Chained.new.Goals as goal

pub invariant_of-result : goal.invariant_of-result
invariant_of-result g c = (
  rw c.new.ensures.items (AreCounts-nil g.Of.Key.PartialEq.eq c.new-2.result c.new-2.ensures.empty),
  rw c.new.ensures.items (AreEnds-nil g.In.Key.PartialEq.eq c.new-3.result c.new-3.ensures.empty),
  rw (c.new.ensures.items, c.new-4.ensures.items) (AreLinks-nil g.In.Key.PartialEq.eq),
)
