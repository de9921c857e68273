-- the rows behind the end are found, the last of them first
use Rattle.tb_index.proofs.LinkLemmas.{IsFoundTo}
use Rattle.tb_index.proofs.links.rows_up_to.Given as goal

abbrev pub invariant-loop-end : goal.invariant-loop-end
invariant-loop-end g l =
    IsFoundTo (λ row. g.In.Key.PartialEq.eq (g.In.KeyOf.key_of row) l.key) l.rows l.found.items l.end

abbrev pub decreases-loop-end : goal.decreases-loop-end
decreases-loop-end g l = l.end
