-- the messages so far have their places, and no book has lost any
use Rattle.std.proofs.Common.{◌≡◌, true, take}
use Rattle.std.specs.List.{list_all}
use Rattle.tb_shelving.specs.Rooms.{has_place}
use Rattle.tb_shelving.specs.Shelving.{IsKeptShelf}
use Rattle.tb_shelving.proofs.ahead.reserve_places_in.Given as goal

abbrev pub invariant-loop-item : goal.invariant-loop-item
invariant-loop-item g l = record {
  places : list_all (λ x. has_place l.shelf.books l.places (g.T.HasMessage.message_of x)) (take l.item-index l.items)
      ≡ true;
  kept : IsKeptShelf l.fn.shelf l.shelf;
}
