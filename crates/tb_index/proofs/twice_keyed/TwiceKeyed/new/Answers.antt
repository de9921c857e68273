-- No rows have no places, no ends and no links.
use Rattle.tb_index.proofs.EndLemmas.{AreEnds-nil}
use Rattle.tb_index.proofs.LinkLemmas.{AreLinks-nil}
use Rattle.tb_index.proofs.FirstLemmas.{AreFirsts-nil}
use Rattle.tb_index.proofs.twice_keyed.TwiceKeyed.new.Goals as goal

pub invariant_of-result : goal.invariant_of-result
invariant_of-result g c = (
  rw c.new.ensures.list (AreFirsts-nil g.Or.Key.PartialEq.eq c.new-2.result c.new-2.ensures.empty),
  rw c.new.ensures.list (AreEnds-nil g.Or.Key.PartialEq.eq c.new-3.result c.new-3.ensures.empty),
  rw (c.new.ensures.list, c.new-4.ensures.items) (AreLinks-nil g.Or.Key.PartialEq.eq),
)
