-- Each entry's message has its place, and so has each that is asked.
use Rattle.std.proofs.Common.{Bool, ℕ, ◌&&◌, ◌∙◌, sym, ap}
use Rattle.std.specs.List.{list_all}
use Rattle.tb_message.specs.declared.message.Message.{Message}
use Rattle.tb_shelving.specs.Rooms.{has_place}
use Rattle.tb_shelving.proofs.RoomLemmas.{all-behind}
use Rattle.tb_shelving.proofs.ahead.have_places.Goals as goal

pub returns-then-have_places_in : goal.returns-then-have_places_in
returns-then-have_places_in c =
    c.have_places_in-then-have_places_in.ensures
    ∙ sym (all-behind (has_place c.args.shelf.now.books c.args.places) c.args.ahead.now c.args.messages.now
    ∙ ap (λ (b : Bool). b && list_all (λ (asked : ℕ × Message). has_place c.args.shelf.now.books c.args.places asked.1)
    c.args.messages.now)
    (sym c.have_places_in.ensures ∙ c.if-have_places_in.true))

pub returns-else-have_places_in : goal.returns-else-have_places_in
returns-else-have_places_in c =
    c.if-have_places_in.false
    ∙ sym (all-behind (has_place c.args.shelf.now.books c.args.places) c.args.ahead.now c.args.messages.now
    ∙ ap (λ (b : Bool). b && list_all (λ (asked : ℕ × Message). has_place c.args.shelf.now.books c.args.places asked.1)
    c.args.messages.now)
    (sym c.have_places_in.ensures ∙ c.if-have_places_in.false))
