-- What stands at the place is found.
use Rattle.std.proofs.Common.{Some, refl, sym, ap, ◌∙◌}
use Rattle.tb_funds.proofs.OfferLemmas.{found-there, found-none}
use Rattle.tb_funds.proofs.offer.find_offer.Goals as goal

pub returns-in-Some : goal.returns-in-Some
returns-in-Some c =
    ap Some c.at_spot.ensures
    ∙ sym (found-there (c.args.seller, c.args.number) c.args.offers.now.elements c.in-Some.spot.place
    c.at_spot.result.now c.requires c.in-Some.ensures.found)

pub returns-in-None : goal.returns-in-None
returns-in-None c =
    sym (found-none (c.args.seller, c.args.number) c.args.offers.now.elements (c.in-None.ensures.none.0 refl))
