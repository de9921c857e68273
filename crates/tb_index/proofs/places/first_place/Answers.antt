-- An equal key has the place that is kept.
use Rattle.std.proofs.Common.{sym}
use Rattle.tb_index.proofs.PlaceLemmas.{first_of-kept}
use Rattle.tb_index.proofs.places.first_place.Goals as goal

pub returns : goal.returns
returns g c keys are =
    sym (first_of-kept g.K.Ord.cmp keys c.args.places.now.elements c.args.key.now c.in_ok-spot.spot.place
    c.at_spot.result.now g.met.K.Ord.total are c.in_ok-spot.ensures.found c.at_spot.ensures)
