-- What fitted still fits, whatever the room is.
use Rattle.std.proofs.Common.{◌≡◌, subst, sym}
use Rattle.tb_core.specs.House.{room_of}
use Rattle.tb_shelving.specs.Rooms.{Fits, Room}
use Rattle.tb_core.proofs.host.Host.take_back.Goals as goal

pub returns-clause-room : goal.returns-clause-room
returns-clause-room c messages fits =
    let room : room_of c.self.inside.room c.self.inside.tables ≡ c.args.self.now.room = λ i. (c.self.view_is i).room in
    c.take_back.ensures.room c.self.inside.room messages (subst (λ (r : Room). Fits r messages) (sym room) fits)
