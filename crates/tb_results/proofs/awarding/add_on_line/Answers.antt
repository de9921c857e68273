-- The holder alone is told the line.
use Rattle.std.proofs.Common.{◌≡◌, ◌∙◌, ℕ, true, subst, sym}
use Rattle.tb_history.specs.Holdings.{if_awarded, par_added}
use Rattle.tb_history.specs.Readings.{IsPaid}
use Rattle.tb_results.proofs.AwardedLemmas.{add_on-awarded, add_on-nothing}
use Rattle.tb_results.proofs.awarding.add_on_line.Goals as goal

pub returns : goal.returns
returns c bidding lines recognised is =
    let awarded = c.if_awarded-amount.ensures.awarded bidding lines recognised is in
    let par : c.if_awarded-amount.result.value
    ≡ par_added (λ name. true) (if_awarded bidding c.args.add_on.now) =
    rw c.in-Some.is (awarded ∙ sym (add_on-awarded bidding c.in-Some.add_on)) in (
      rw c.in-Some.is (sym c.is_same.ensures ∙ c.if-not-is_same.false),
      record {
        amount = par;
        payment = subst (λ (n : ℕ). IsPaid bidding n c.payment_for.result.value) par
            (c.payment_for.ensures bidding lines recognised is
            (λ none. awarded ∙ add_on-nothing bidding c.in-Some.add_on.amount.value none));
      },
    )
