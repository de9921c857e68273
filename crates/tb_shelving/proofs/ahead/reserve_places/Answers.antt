-- The entries' messages have their places, and then those that are asked.
use Rattle.tb_shelving.proofs.KeptLemmas.{IsKeptShelf-both}
use Rattle.tb_shelving.proofs.RoomLemmas.{places-behind}
use Rattle.tb_shelving.proofs.ahead.reserve_places.Goals as goal

pub returns-clause-places : goal.returns-clause-places
returns-clause-places c =
    places-behind c.reserve_places_in-2.result c.reserve_places_in.new.shelf c.reserve_places_in-2.new.shelf
    c.args.places
    c.args.ahead.now c.args.messages.now c.reserve_places_in-2.ensures.kept c.in_ok-reserve_places_in.ensures.places
    c.reserve_places_in-2.ensures.places

pub returns-clause-kept : goal.returns-clause-kept
returns-clause-kept c =
    IsKeptShelf-both c.args.shelf.now c.reserve_places_in.new.shelf c.reserve_places_in-2.new.shelf
    c.reserve_places_in.ensures.kept c.reserve_places_in-2.ensures.kept
