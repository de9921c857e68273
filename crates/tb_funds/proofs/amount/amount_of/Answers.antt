-- What stands at the place is all that stands under the number.
use Rattle.std.proofs.Common.{refl, sym}
use Rattle.tb_funds.proofs.AmountLemmas.{amount_in-found, amount_in-lacks}
use Rattle.tb_funds.proofs.amount.amount_of.Goals as goal

pub returns-in-Some : goal.returns-in-Some
returns-in-Some c =
    amount_in-found c.args.key c.args.amounts.now.elements c.in-Some.spot.place c.at_spot.result.now c.requires
    c.in-Some.ensures.found c.at_spot.ensures

pub returns-in-None : goal.returns-in-None
returns-in-None c =
    sym (amount_in-lacks c.args.key c.args.amounts.now.elements (c.in-None.ensures.none.0 refl))
