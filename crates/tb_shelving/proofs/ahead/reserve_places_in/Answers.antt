-- Each message gets its places, and no book loses any.
use Rattle.std.proofs.Common.{◌≡◌, true, subst, arith}
use Rattle.tb_message.specs.declared.message.Message.{Message}
use Rattle.tb_shelving.specs.Rooms.{has_place}
use Rattle.tb_shelving.proofs.KeptLemmas.{IsKeptShelf-both}
use Rattle.tb_shelving.proofs.RoomLemmas.{places-more}
use Rattle.tb_shelving.proofs.ahead.reserve_places_in.Goals as goal

pub loop-item-preserved : goal.loop-item-preserved
loop-item-preserved g c = record {
  places = places-more g.T.HasMessage.message_of c.loop-item.shelf c.reserve_place.new.shelf c.args.places
      c.args.items.now
      c.loop-item.item-index c.item-item.result (omega arith) c.item-item.is c.reserve_place.ensures.kept
      c.loop-item.invariant.places
      (subst (λ (m : Message). has_place c.reserve_place.new.shelf.books c.args.places m ≡ true) c.message.ensures
      c.in_ok-reserve_place.ensures.place);
  kept = IsKeptShelf-both c.args.shelf.now c.loop-item.shelf c.reserve_place.new.shelf c.loop-item.invariant.kept
      c.reserve_place.ensures.kept;
}
