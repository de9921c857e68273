-- Something is awarded just where there is a cut.
use Rattle.std.proofs.Common.{refl, subst, sym}
use Rattle.tb_award.specs.declared.outcome.Outcome.{Outcome}
use Rattle.tb_results.specs.Outcomes.{IsCutIn}
use Rattle.tb_results.proofs.AwardedLemmas.{add_on-nothing, none-recognised, some-recognised}
use Rattle.tb_results.proofs.awarding.if_awarded.Goals as goal
use Rattle.tb_results.proofs.awarding.if_awarded.Goals.{in-NoAwards, in-Cut}

pub returns-clause-awarded : goal.returns-clause-awarded
returns-clause-awarded c = elim c.match-outcome.branch [
  | in-NoAwards w ↦ rw w.result-is (λ bidding lines recognised is.
      sym (add_on-nothing bidding c.args.amount.value (none-recognised bidding lines recognised
      (subst (λ (o : Outcome). IsCutIn bidding lines recognised o) w.in-NoAwards.is is))))
  | in-Cut w ↦ rw w.result-is (λ bidding lines recognised is.
      rw (some-recognised bidding lines recognised w.in-Cut.field-0
      (subst (λ (o : Outcome). IsCutIn bidding lines recognised o) w.in-Cut.is is)) refl)
]
