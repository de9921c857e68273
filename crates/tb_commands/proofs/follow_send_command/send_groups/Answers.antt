use Rattle.std.proofs.Common.{◌∙◌, ap, arith, refl, length}
use Rattle.tb_commands.proofs.FollowGroupLemmas.{
  IsRead-both,
  behind_next,
  groups-all,
  groups-beginning,
  groups-more,
  groups-part,
  groups-read,
}
use Rattle.tb_commands.proofs.follow_send_command.send_groups.Goals as goal

pub groups-preserved : goal.groups-preserved
groups-preserved g c =
    let seen = g.D.Disk.disk in
    let sink = g.O.Sink.sink in
    let inv = c.groups.invariant in
    let size = rw c.in-Ok-Some.field-0-is at c.in-Ok-Some.ensures.size in
    let between = rw c.in-Ok-Some.field-0-is at c.in-Ok-Some.ensures.between in
    let sizes = c.in-Ok.ensures.behind in (
      rw c.in-Ok-Some.field-0-is at c.in-Ok-Some.ensures.next,
      c.next_group.ensures.window,
      IsRead-both c.args.desk.now c.groups.desk c.next_group.new.self inv.2 c.next_group.ensures.same,
      c.next_group.ensures.kept ∙ inv.3,
      c.in-Ok-Some.ensures.no_fault ∙ inv.4,
      c.in-Ok.ensures.no_fault ∙ inv.5,
      behind_next c.groups.desk.gate c.groups.at c.groups.before c.in-Ok.behind c.in-Ok-Some._size c.in-Ok-Some.next
          inv.6 sizes.0 (omega (arith, sizes.1, size, ap length c.payload.ensures)) between,
      groups-more seen c.args.desk.now c.groups.desk c.args.from c.groups.at c.groups.before (sink c.args.out.now)
          (sink c.groups.out) inv.2 inv.3 inv.7 c.in-Ok-Some.next c.next_group.new.into.payload
          (sink c.send_group.new.out) (rw c.in-Ok-Some.field-0-is at c.in-Ok-Some.ensures.group) c.in-Ok.behind
          (λ group some in_range is. c.in-Ok.ensures.sends group some in_range (c.payload.ensures ∙ is)),
    )

pub returns-in-Err-Unreadable-clause-sent : goal.returns-in-Err-Unreadable-clause-sent
returns-in-Err-Unreadable-clause-sent g c =
    let inv = c.groups.invariant in
    groups-read g.D.Disk.disk c.args.desk.now c.groups.desk c.args.from c.groups.at c.groups.before
    (g.O.Sink.sink c.args.out.now) (g.O.Sink.sink c.groups.out) inv.2 inv.3 inv.7 c.in-Ok-Some.next
    c.next_group.new.into.payload (g.O.Sink.sink c.send_group.new.out)
    (rw c.in-Ok-Some.field-0-is at c.in-Ok-Some.ensures.group)
    (λ group some in_range is. (rw c.in-Err-Unreadable.field-0-is at c.in-Err-Unreadable.ensures.sends) group some
    in_range (c.payload.ensures ∙ is))

pub returns-in-Err-Write-clause-sent : goal.returns-in-Err-Write-clause-sent
returns-in-Err-Write-clause-sent g c =
    let inv = c.groups.invariant in
    groups-part g.D.Disk.disk c.args.desk.now c.groups.desk c.args.from c.groups.at c.groups.before
    (g.O.Sink.sink c.args.out.now) (g.O.Sink.sink c.groups.out) inv.2 inv.3 inv.7 c.in-Ok-Some.next
    c.next_group.new.into.payload (g.O.Sink.sink c.send_group.new.out)
    (rw c.in-Ok-Some.field-0-is at c.in-Ok-Some.ensures.group)
    (λ group some in_range is. (rw c.in-Err-Write.field-0-is at c.in-Err-Write.ensures.sends) group some in_range
    (c.payload.ensures ∙ is))

pub returns-in-Ok-None-clause-sent : goal.returns-in-Ok-None-clause-sent
returns-in-Ok-None-clause-sent g c =
    let inv = c.groups.invariant in
    groups-all g.D.Disk.disk c.args.desk.now c.groups.desk c.args.from c.groups.at c.groups.before
    (g.O.Sink.sink c.args.out.now) (g.O.Sink.sink c.groups.out) inv.2 inv.3 inv.7
    ((rw c.in-Ok-None.field-0-is at c.in-Ok-None.ensures.all) refl)

pub returns-in-Err-clause-sent : goal.returns-in-Err-clause-sent
returns-in-Err-clause-sent g c =
    let inv = c.groups.invariant in
    groups-beginning g.D.Disk.disk c.args.desk.now c.groups.desk c.args.from c.groups.at c.groups.before
    (g.O.Sink.sink c.args.out.now) (g.O.Sink.sink c.groups.out) inv.2 inv.3 inv.7
