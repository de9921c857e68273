-- No rows have no ends.
use Rattle.tb_index.proofs.EndLemmas.{AreEnds-nil}
use Rattle.tb_index.proofs.latest.Latest.new.Goals as goal

pub invariant_of-result : goal.invariant_of-result
invariant_of-result g c =
    rw c.new.ensures.items (AreEnds-nil g.By.Key.PartialEq.eq c.new-2.result c.new-2.ensures.empty)
