-- The payload up to here is a group that was entered.
use Rattle.std.proofs.Common.{length}
use Rattle.tb_desk.proofs.ReplayLemmas.{IsEntered}
use Rattle.tb_desk.proofs.replay.enter_group.Given as goal

abbrev pub invariant-entries : goal.invariant-entries
invariant-entries l = IsEntered l.version l.fn.host.history l.host.history l.payload l.rest

abbrev pub decreases-entries : goal.decreases-entries
decreases-entries l = length l.rest
