-- The offer is put in among others.
use Rattle.std.proofs.Common.{sym, subst}
use Rattle.tb_funds.specs.Offers.{Puts}
use Rattle.tb_funds.proofs.OfferLemmas.{Puts-new, lacks-key, key_of}
use Rattle.tb_funds.proofs.offer.add_offer.Goals as goal

pub insert-requires-clause-new : goal.insert-requires-clause-new
insert-requires-clause-new c =
    lacks-key (key_of c.args.kept) c.args.offers.now.elements c.requires.in_order c.requires.new

pub returns-clause-offers : goal.returns-clause-offers
returns-clause-offers c =
    let put = c.insert.ensures.inserted in
    subst (Puts c.args.kept c.args.offers.now.elements) (sym put.is)
    (Puts-new c.args.offers.now.elements put.place c.args.kept
    (lacks-key (key_of c.args.kept) c.args.offers.now.elements c.requires.in_order c.requires.new))
