-- The records so far stand in the payload.
use Rattle.std.proofs.Common.{◌≡◌, ◌≤◌, ◌*◌, length, take, vec_capacity}
use Rattle.tb_message.specs.Spelling.{spellings}
use Rattle.tb_desk.proofs.groups.spell.Given as goal

abbrev pub invariant-loop-entry : goal.invariant-loop-entry
invariant-loop-entry l = record {
  bytes : l.payload.items ≡ spellings (take l.entry-index l.group);
  few : length l.payload.items ≤ 512 * l.entry-index;
  room : vec_capacity l.fn.payload ≤ vec_capacity l.payload;
}
