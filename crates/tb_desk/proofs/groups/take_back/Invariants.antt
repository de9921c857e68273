-- So many entries of the group are left.
use Rattle.std.proofs.Common.{◌≡◌, ◌≤◌, ◌++◌, List, length, take}
use Rattle.tb_message.specs.declared.message.Entry.{Entry}
use Rattle.tb_desk.proofs.groups.take_back.Given as goal

abbrev pub invariant-loop-left : goal.invariant-loop-left
invariant-loop-left l = record {
  within : l.left ≤ length l.group;
  history : (earlier : List Entry) → l.fn.host.history ≡ earlier ++ l.group
      → l.host.history ≡ earlier ++ take l.left l.group;
}

abbrev pub decreases-loop-left : goal.decreases-loop-left
decreases-loop-left l = l.left
