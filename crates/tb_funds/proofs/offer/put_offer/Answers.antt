-- The offer is written over the one of its key.
use Rattle.std.proofs.Common.{◌≡◌, Some, None, get_or, refl, sym, ap, ◌∙◌, subst, arith}
use Rattle.tb_funds.specs.Amounts.{part}
use Rattle.tb_funds.specs.Offers.{Puts, is_open_of, open_in}
use Rattle.tb_funds.proofs.OfferLemmas.{Puts-written, found-there, found-none, open_in-written, equal-is, key_of}
use Rattle.tb_funds.proofs.offer.put_offer.Goals as goal

pub returns-in-Some-clause-offers : goal.returns-in-Some-clause-offers
returns-in-Some-clause-offers c =
    let offers = c.args.offers.now.elements in
    let found = c.in-Some.ensures.found in
    subst (Puts c.args.kept offers) (sym c.replace_at.ensures.elements)
    (Puts-written offers c.in-Some.spot.place c.args.kept c.args.kept c.requires.in_order found.within
    (equal-is (key_of (get_or offers c.in-Some.spot.place c.args.kept)) (key_of c.args.kept) (found.same c.args.kept)))

pub returns-in-Some-clause-opens : goal.returns-in-Some-clause-opens
returns-in-Some-clause-opens c = λ other.
    let offers = c.args.offers.now.elements in
    let found = c.in-Some.ensures.found in
    let old = get_or offers c.in-Some.spot.place c.args.kept in
    let there : Some c.args.old ≡ Some old =
    sym c.requires.there
    ∙ found-there (key_of c.args.kept) offers c.in-Some.spot.place c.args.kept c.requires.in_order found in
    let same : c.args.old ≡ old = cc in
    omega (
      arith,
      ap (open_in other) c.replace_at.ensures.elements,
      ap (λ x. part (is_open_of other x) 1) same,
      open_in-written other c.in-Some.spot.place offers c.args.kept c.args.kept found.within,
    )

-- the offer is there
wrong : (c : goal.In_default) → ⊥
wrong c =
    let none = found-none (key_of c.args.kept) c.args.offers.now.elements (c.in_default.ensures.none.0 refl) in
    let same : None ≡ Some c.args.old = sym none ∙ c.requires.there in
    absurd (cc)

pub returns-in_default-clause-offers : goal.returns-in_default-clause-offers
returns-in_default-clause-offers c = absurd (wrong c)

pub returns-in_default-clause-opens : goal.returns-in_default-clause-opens
returns-in_default-clause-opens c = absurd (wrong c)
