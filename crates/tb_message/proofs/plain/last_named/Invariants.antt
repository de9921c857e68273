use Rattle.std.proofs.Common.{◌≡◌, ◌≤◌, length, reverse, take}
use Rattle.serde_json.specs.Find.{get_member}
use Rattle.tb_message.specs.Plain.{members_data}
use Rattle.tb_message.proofs.plain.last_named.Given as goal

-- the name is none of those behind the members that are left
abbrev pub invariant-loop-left : goal.invariant-loop-left
invariant-loop-left l = record {
  within : l.left ≤ length l.members;
  none_behind :
      get_member l.name (members_data (reverse l.members))
      ≡ get_member l.name (members_data (reverse (take l.left l.members)));
}

abbrev pub decreases-loop-left : goal.decreases-loop-left
decreases-loop-left l = l.left
