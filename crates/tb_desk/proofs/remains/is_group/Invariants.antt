-- The payload up to here is records of entries.
use Rattle.std.proofs.Common.{length}
use Rattle.tb_desk.proofs.RemainsLemmas.{ReadsUpTo}
use Rattle.tb_desk.proofs.remains.is_group.Given as goal

abbrev pub invariant-entries : goal.invariant-entries
invariant-entries l = ReadsUpTo l.payload l.rest

abbrev pub decreases-entries : goal.decreases-entries
decreases-entries l = length l.rest
