-- The entries so far are applied, and room for the others lasts.
use Rattle.std.proofs.Common.{◌≡◌, ◌++◌, List, take, drop}
use Rattle.tb_message.specs.declared.message.Message.{Message}
use Rattle.tb_core.specs.Rooms.{Fits}
use Rattle.tb_desk.specs.Turn.{messages_of}
use Rattle.tb_desk.proofs.groups.apply_all.Given as goal

abbrev pub invariant-loop-entry : goal.invariant-loop-entry
invariant-loop-entry l = record {
  history : l.host.history ≡ l.fn.host.history ++ take l.entry-index l.group;
  room : (others : List Message) → Fits l.fn.host.room (messages_of l.group ++ others)
      → Fits l.host.room (messages_of (drop l.entry-index l.group) ++ others);
}
