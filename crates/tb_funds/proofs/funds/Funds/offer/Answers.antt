-- The seller has one open offer more.
use Rattle.std.proofs.Common.{◌+◌, ◌∙◌, ap, arith}
use Rattle.tb_funds.specs.Amounts.{part}
use Rattle.tb_funds.specs.Offers.{is_open_of, open_in}
use Rattle.tb_funds.proofs.FundsLemmas.{AreKept-offered}
use Rattle.tb_funds.proofs.funds.Funds.offer.Goals as goal

pub invariant_of-self : goal.invariant_of-self
invariant_of-self c =
    let inside = c.self.inside in
    AreKept-offered inside.balances.elements inside.total inside.offers.elements c.add_offer.new.offers.elements
    inside.opens.elements c.raise.new.amounts.elements c.args.offer c.self.invariant c.add_offer.ensures.in_order
    c.raise.ensures.in_order
    (λ other. c.add_offer.ensures.opens other
    ∙ ap (λ kept. open_in other inside.offers.elements + part (is_open_of other kept) 1) c.kept.ensures)
    c.raise.ensures.amounts (omega (arith, c.amount_of.ensures, c.if-amount_of-ge-MOST_OPEN.false))
