-- The announcement has no fault.
use Rattle.std.proofs.Common.{ap, ◌∙◌}
use Rattle.tb_terms.specs.Faults.{fault_of}
use Rattle.tb_trial.proofs.AnnouncedLemmas.{announcement-in_order, ok-result}
use Rattle.tb_trial.proofs.announcing.trial_terms.Goals as goal

pub unwrap-requires : goal.unwrap-requires
unwrap-requires c =
    ok-result c.check.result (c.check.ensures.fault ∙ ap fault_of c.announced.ensures ∙ announcement-in_order)
