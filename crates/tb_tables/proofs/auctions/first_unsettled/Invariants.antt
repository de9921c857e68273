-- the first that isn't settled is found of those behind the end
use Rattle.tb_tables.proofs.BehindLemmas.{IsFirstBehind}
use Rattle.tb_tables.proofs.UnsettledLemmas.{is_of, is_open}
use Rattle.tb_tables.proofs.auctions.first_unsettled.Given as goal

abbrev pub invariant-loop-end : goal.invariant-loop-end
invariant-loop-end l =
    IsFirstBehind (is_of l.cusip.bytes) (is_open l.cusip.bytes l.settled.list) l.auctions.list l.end l.first

abbrev pub decreases-loop-end : goal.decreases-loop-end
decreases-loop-end l = l.end
