-- What is paid is by what is awarded.
use Rattle.std.proofs.Common.{ℕ, ◌∙◌, refl, subst}
use Rattle.tb_history.specs.Readings.{IsPaid}
use Rattle.tb_results.proofs.AwardedLemmas.{awarded-nothing}
use Rattle.tb_results.proofs.awarding.award_line.Goals as goal

pub returns : goal.returns
returns c bidding lines recognised is amount = record {
  whose = refl;
  amount = amount;
  payment = subst (λ (n : ℕ). IsPaid bidding n c.payment_for.result.value) amount
      (c.payment_for.ensures bidding lines recognised is
      (λ none. amount ∙ awarded-nothing bidding c.args.bidder.now.bidder none));
}
