-- What the message means is done: each call of the funds finds what it asks.
use Rattle.std.proofs.Common.{ℕ, ◌+◌, ◌<◌, ◌≤◌, ◌==◌, ap, sym, ◌∙◌, subst}
use Rattle.tb_funds.specs.declared.offer.Offer.{Offer}
use Rattle.tb_funds.specs.declared.offer.State.TheVariants as state
use Rattle.tb_funds.specs.Amounts.{part}
use Rattle.tb_funds.specs.Offers.{Puts}
use Rattle.tb_funds.specs.Funds.{balance_of, offer_of, open_of, kept_as, IsOpenOffer, ClosesOne}
use Rattle.tb_cashbook.specs.Cashbook.{holder_in, kept_in}
use Rattle.tb_cashbook.proofs.CashbookLemmas.{deposit-fits, tells-deposit, withdrawal-covered, tells-withdrawal}
use Rattle.tb_cashbook.proofs.CashbookLemmas.{sell-fits, tells-offer, not_full, not_refused, open-there}
use Rattle.tb_cashbook.proofs.CashbookLemmas.{purchase-found, purchase-funded, tells-purchase}
use Rattle.tb_cashbook.proofs.CashbookLemmas.{retraction-found, tells-retraction}
use Rattle.tb_cashbook.proofs.MeaningLemmas.{means-deposit, means-withdrawal, means-sell, means-purchase}
use Rattle.tb_cashbook.proofs.MeaningLemmas.{means-retraction}
use Rattle.tb_cashbook.proofs.entering.enter_cash.Goals as goal

pub deposit-requires-clause-limit : goal.deposit-requires-clause-limit
deposit-requires-clause-limit c =
    let next = c.requires.next in
    let is = means-deposit next.0 next.1 c.args.cash.now c.in-Deposited.holder c.in-Deposited.cents next.3
    c.in-Deposited.is in
    deposit-fits next.0 next.1 c.args.funds.now is.0 c.in-Deposited.cents next.2 is.1

pub returns-in-Deposited-clause-told : goal.returns-in-Deposited-clause-told
returns-in-Deposited-clause-told c history entry next means =
    let old = c.args.funds.now in
    let cents = c.in-Deposited.cents in
    let is = means-deposit history entry c.args.cash.now c.in-Deposited.holder cents means c.in-Deposited.is in
    tells-deposit history entry old c.deposit.new.self is.0 cents next is.1
    (λ k. c.deposit.ensures.balances k
    ∙ ap (λ (holder : ℕ). balance_of k old + part (holder == k) cents.value) is.2)
    c.deposit.ensures.total c.deposit.ensures.offers

pub returns-in-Withdrawn-clause-told : goal.returns-in-Withdrawn-clause-told
returns-in-Withdrawn-clause-told c history entry next means =
    let old = c.args.funds.now in
    let new = c.withdraw.new.self in
    let mine = c.in-Withdrawn.holder in
    let given = c.in-Withdrawn.cents in
    let cents = given.value in
    let is = means-withdrawal history entry c.args.cash.now mine given means c.in-Withdrawn.is in
    let enough = subst (λ (holder : ℕ). cents ≤ balance_of holder old) (sym is.2)
    (withdrawal-covered history entry old is.0 given next is.1) in
    let less = not_refused c.withdraw.result (balance_of mine old) cents _ c.withdraw.ensures.refused enough
    c.withdraw.ensures.balances in
    let total = not_refused c.withdraw.result (balance_of mine old) cents _ c.withdraw.ensures.refused enough
    c.withdraw.ensures.total in
    tells-withdrawal history entry old new is.0 given next is.1
    (λ k. ap (λ (holder : ℕ). balance_of k new + part (holder == k) cents) (sym is.2) ∙ less k)
    total c.withdraw.ensures.offers

pub offer-requires-clause-new : goal.offer-requires-clause-new
offer-requires-clause-new c =
    let next = c.requires.next in
    let is = means-sell next.0 next.1 c.args.cash.now c.in-Offered.offer next.3 c.in-Offered.is in
    ap (λ (offer : Offer). offer_of offer.seller offer.number c.args.funds.now) is.5
    ∙ (sell-fits next.0 next.1 c.args.funds.now is.0 is.1 is.2 is.3 next.2 is.4).0

pub returns-in-Offered-clause-told : goal.returns-in-Offered-clause-told
returns-in-Offered-clause-told c history entry next means =
    let old = c.args.funds.now in
    let new = c.offer.new.self in
    let is = means-sell history entry c.args.cash.now c.in-Offered.offer means c.in-Offered.is in
    let few = subst (λ (offer : Offer). open_of offer.seller old < 1000) (sym is.5)
    (sell-fits history entry old is.0 is.1 is.2 is.3 next is.4).1 in
    let count = open_of c.in-Offered.offer.seller old in
    let puts = not_full c.offer.result 1000 count _ c.offer.ensures.refused few c.offer.ensures.offers in
    let opens = not_full c.offer.result 1000 count _ c.offer.ensures.refused few c.offer.ensures.opens in
    tells-offer history entry old new is.0 is.1 is.2 is.3 next is.4
    (subst (λ (offer : Offer). Puts (kept_as offer state.Open) old.offers new.offers) is.5 puts)
    (λ k. opens k ∙ ap (λ (offer : Offer). open_of k old + part (offer.seller == k) 1) is.5)
    c.offer.ensures.balances

pub buy-requires-clause-there : goal.buy-requires-clause-there
buy-requires-clause-there c =
    let next = c.requires.next in
    let number = c.in-Bought.number in
    let is = means-purchase next.0 next.1 c.args.cash.now c.in-Bought.seller number next.3 c.in-Bought.is in
    let money = c.args.funds.now in
    let found = purchase-found next.0 next.1 money is.0 number next.2 is.1 in
    let kept = kept_in next.0 found.0 in (
      kept,
      subst (λ (seller : ℕ). IsOpenOffer seller number money kept) (sym is.2)
          (open-there next.0 money is.0 number found.0 next.2.told found.1 found.2.unclosed),
    )

pub returns-in-Bought-clause-told : goal.returns-in-Bought-clause-told
returns-in-Bought-clause-told c history entry next means =
    let old = c.args.funds.now in
    let new = c.buy.new.self in
    let number = c.in-Bought.number in
    let is = means-purchase history entry c.args.cash.now c.in-Bought.seller number means c.in-Bought.is in
    let found = purchase-found history entry old is.0 number next is.1 in
    let o = found.0 in
    let kept = kept_in history o in
    let there = ap (λ (seller : ℕ). offer_of seller number old) is.2
    ∙ (open-there history old is.0 number o next.told found.1 found.2.unclosed).there in
    let balance = balance_of (holder_in history o.buyer) old in
    let enough = purchase-funded history entry old o next found.2 in
    let refused = c.buy.ensures.refused kept there in
    let moves = not_refused c.buy.result balance o.price.value _ refused enough (c.buy.ensures.balances kept there) in
    let puts = not_refused c.buy.result balance o.price.value _ refused enough (c.buy.ensures.offers kept there) in
    let closes = not_refused c.buy.result balance o.price.value _ refused enough c.buy.ensures.opens in
    tells-purchase history entry old new is.0 number o next is.1 found.1 found.2.unclosed moves puts
    (subst (λ (seller : ℕ). ClosesOne seller old new) is.2 closes) c.buy.ensures.total

pub retract-requires : goal.retract-requires
retract-requires c =
    let next = c.requires.next in
    let number = c.in-Retracted.number in
    let is = means-retraction next.0 next.1 c.args.cash.now c.in-Retracted.seller number next.3 c.in-Retracted.is in
    let money = c.args.funds.now in
    let found = retraction-found next.0 next.1 money number next.2 is.0 in
    let kept = kept_in next.0 found.0 in
    record {
      there = (
        kept,
        subst (λ (seller : ℕ). IsOpenOffer seller number money kept) (sym is.1)
            (open-there next.0 money next.1.submitter number found.0 next.2.told found.1 found.2),
      );
    }

pub returns-in-Retracted-clause-told : goal.returns-in-Retracted-clause-told
returns-in-Retracted-clause-told c history entry next means =
    let old = c.args.funds.now in
    let new = c.retract.new.self in
    let number = c.in-Retracted.number in
    let is = means-retraction history entry c.args.cash.now c.in-Retracted.seller number means c.in-Retracted.is in
    let found = retraction-found history entry old number next is.0 in
    let o = found.0 in
    let kept = kept_in history o in
    let there = ap (λ (seller : ℕ). offer_of seller number old) is.1
    ∙ (open-there history old entry.submitter number o next.told found.1 found.2).there in
    tells-retraction history entry old new number o next is.0 found.1 found.2
    (c.retract.ensures.offers kept there)
    (subst (λ (seller : ℕ). ClosesOne seller old new) is.1 c.retract.ensures.opens) c.retract.ensures.balances
