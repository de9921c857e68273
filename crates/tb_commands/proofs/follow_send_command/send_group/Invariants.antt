use Rattle.std.proofs.Common.{◌≡◌, ◌+◌, ◌≤◌, List, length}
use Rattle.std.specs.List.{All}
use Rattle.tb_message.specs.declared.message.Entry.{Entry}
use Rattle.tb_message.specs.Spelling.{IsInRange, spellings}
use Rattle.tb_desk.specs.Stands.{IsGroup}
use Rattle.tb_commands.proofs.FollowSendLemmas.{SentUpTo}
use Rattle.tb_commands.proofs.follow_send_command.send_group.Given as goal

-- where the payload is that of a group, so much of it was written
abbrev pub invariant-entries : goal.invariant-entries
invariant-entries g l =
    (l.before ≤ l.place)
    × (l.place + length l.rest ≤ l.before + length l.payload)
    × ((g.O.Sink.sink l.out).faults ≡ (g.O.Sink.sink l.fn.out).faults)
    × ((group : List Entry) → IsGroup group → All IsInRange group → l.payload ≡ spellings group
    → SentUpTo l.from l.before group l.rest l.place (g.O.Sink.sink l.fn.out) (g.O.Sink.sink l.out))

abbrev pub decreases-entries : goal.decreases-entries
decreases-entries g l = length l.rest
