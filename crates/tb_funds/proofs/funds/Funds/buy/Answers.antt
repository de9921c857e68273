-- The price moves, and the offer is closed.
use Rattle.std.proofs.Common.{◌≡◌, ℕ, ◌+◌, ◌==◌, refl, sym, ap, ◌∙◌, arith}
use Rattle.tb_funds.specs.declared.offer.State.TheVariants as state
use Rattle.tb_funds.specs.Amounts.{part, total_in}
use Rattle.tb_funds.specs.Offers.{is_open_of, offer_in, open_in}
use Rattle.tb_funds.proofs.AmountLemmas.{amount_in-most}
use Rattle.tb_funds.proofs.FundsLemmas.{IsClosing, closing, closing-found, closing-some, closing-opens, AreKept-closed}
use Rattle.tb_funds.proofs.funds.Funds.buy.Goals as goal

pub raise-requires-clause-fits : goal.raise-requires-clause-fits
raise-requires-clause-fits c =
    omega (
      arith,
      amount_in-most c.in-Some.kept.seller c.lower.new.amounts.elements,
      c.lower.ensures.total,
      c.self.invariant.limited,
    )

-- the offer that is found is open
is_closing : (c : goal.After-lower-2) → IsClosing c.args.seller c.args.number c.self.inside.offers.elements
    c.in-Some.kept
is_closing c =
    let there = rw (← c.self.view_is) at c.requires.there in
    closing c.args.seller c.args.number c.self.inside.offers.elements c.in-Some.kept there.0
    (sym c.find_offer.ensures ∙ c.in-Some.is) there.1.there there.1.unclosed

pub put_offer-requires-clause-there : goal.put_offer-requires-clause-there
put_offer-requires-clause-there c =
    ap (λ kept. offer_in kept.seller kept.number c.self.inside.offers.elements) c.closed.ensures
    ∙ closing-found c.args.seller c.args.number c.self.inside.offers.elements c.in-Some.kept
    (sym c.find_offer.ensures ∙ c.in-Some.is)

pub lower-requires-2-clause-there : goal.lower-requires-2-clause-there
lower-requires-2-clause-there c =
    let there = rw (← c.self.view_is) at c.requires.there in
    let is =
    closing c.args.seller c.args.number c.self.inside.offers.elements c.in-Some.kept there.0
    (sym c.find_offer.ensures ∙ c.in-Some.is) there.1.there there.1.unclosed in
    omega (
      arith,
      closing-some c.args.seller c.args.number c.self.inside.offers.elements c.in-Some.kept is,
      c.self.invariant.opens_are c.args.seller,
    )

-- one offer less is open
opens_less : (c : goal.After-lower-2) → (other : ℕ)
    → open_in other c.put_offer.new.offers.elements + part (c.args.seller == other) 1
    ≡ open_in other c.self.inside.offers.elements
opens_less c =
    closing-opens c.args.seller c.args.number c.self.inside.offers.elements c.put_offer.new.offers.elements
    c.in-Some.kept state.Bought (is_closing c) refl
    (λ other. c.put_offer.ensures.opens other
    ∙ ap (λ kept. open_in other c.self.inside.offers.elements + part (is_open_of other kept) 1) c.closed.ensures)

-- all balances together stay
same_total : (c : goal.After-lower-2) → total_in c.raise.new.amounts.elements ≡ total_in c.self.inside.balances.elements
same_total c = omega (arith, c.lower.ensures.total, c.raise.ensures.total)

pub invariant_of-self : goal.invariant_of-self
invariant_of-self c =
    let inside = c.self.inside in
    AreKept-closed inside.balances.elements c.raise.new.amounts.elements inside.total c.args.seller
    inside.offers.elements c.put_offer.new.offers.elements inside.opens.elements c.lower-2.new.amounts.elements
    c.self.invariant c.raise.ensures.in_order (same_total c)
    (record {
      in_order = c.put_offer.ensures.in_order;
      opens_in_order = c.lower-2.ensures.in_order;
      offers_less = opens_less c;
      opens_less = c.lower-2.ensures.amounts;
    })

pub returns-clause-opens : goal.returns-clause-opens
returns-clause-opens c = rw (← c.self.view_is) (opens_less c)
