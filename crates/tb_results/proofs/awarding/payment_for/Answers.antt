-- What is paid is by the price of the cut, and nothing for nothing.
use Rattle.std.proofs.Common.{subst}
use Rattle.tb_award.specs.declared.outcome.Outcome.{Outcome}
use Rattle.tb_results.specs.Outcomes.{IsCutIn}
use Rattle.tb_results.proofs.AwardedLemmas.{none-recognised, paid-cut, paid-none}
use Rattle.tb_results.proofs.awarding.payment_for.Goals as goal
use Rattle.tb_results.proofs.awarding.payment_for.Goals.{in-NoAwards, in-Cut}

pub returns : goal.returns
returns c = elim c.match-outcome.branch [
  | in-NoAwards w ↦ rw w.result-is (λ bidding lines recognised is nothing.
      let none = subst (λ (o : Outcome). IsCutIn bidding lines recognised o) w.in-NoAwards.is is in
      paid-none bidding lines recognised c.args.amount.value none
      (nothing (none-recognised bidding lines recognised none)))
  | in-Cut w ↦ rw w.result-is (λ bidding lines recognised is nothing.
      paid-cut bidding lines recognised w.in-Cut.cut c.args.amount.value w.payment.result.value
      (subst (λ (o : Outcome). IsCutIn bidding lines recognised o) w.in-Cut.is is) w.payment.ensures)
]
