-- The history is legal by the host's invariant, so that its length is bounded.
use Rattle.std.proofs.Common.{◌*◌, ◌≤◌, length, subst}
use Rattle.tb_history.specs.Legal.{IsLegal}
use Rattle.tb_history.proofs.LengthLemmas.{IsLegal-length}
use Rattle.tb_core.specs.House.{House}
use Rattle.tb_core.proofs.host.Host.entries.Goals as goal

pub returns-clause-limit : goal.returns-clause-limit
returns-clause-limit c =
    subst (λ (h : House). length h.history ≤ 4097 * 1048576) c.self.view_is
    (IsLegal-length c.self.inside.entries.list c.self.invariant.tied.legal)

pub returns-clause-legal : goal.returns-clause-legal
returns-clause-legal c = subst (λ (h : House). IsLegal h.history) c.self.view_is c.self.invariant.tied.legal
