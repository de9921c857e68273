-- An entry's message settles, or one that is asked does.
use Rattle.std.proofs.Common.{Bool, ℕ, ◌||◌, ◌∙◌, ap, sym}
use Rattle.std.specs.List.{list_any}
use Rattle.tb_message.specs.declared.message.Message.{Message}
use Rattle.tb_tables.specs.Kinds.{settles}
use Rattle.tb_shelving.proofs.RoomLemmas.{any-behind}
use Rattle.tb_shelving.proofs.ahead.has_settlement.Goals as goal

pub returns-then-settles_in : goal.returns-then-settles_in
returns-then-settles_in c =
    c.if-settles_in.true
    ∙ sym (any-behind settles c.args.ahead.now c.args.messages.now
    ∙ ap (λ (b : Bool). b || list_any (λ (asked : ℕ × Message). settles asked.1) c.args.messages.now)
    (sym c.settles_in.ensures ∙ c.if-settles_in.true))

pub returns-else-settles_in : goal.returns-else-settles_in
returns-else-settles_in c =
    c.settles_in-else-settles_in.ensures
    ∙ sym (any-behind settles c.args.ahead.now c.args.messages.now
    ∙ ap (λ (b : Bool). b || list_any (λ (asked : ℕ × Message). settles asked.1) c.args.messages.now)
    (sym c.settles_in.ensures ∙ c.if-settles_in.false))
