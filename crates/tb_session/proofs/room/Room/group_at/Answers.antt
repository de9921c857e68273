-- A group, by what the desk answers.
use Rattle.std.proofs.Common.{ap, ◌≡◌, sym, ◌∙◌, subst, Some, arith}
use Rattle.tb_desk.specs.Desks.{held}
use Rattle.tb_session.specs.declared.groups.Grouped.TheVariants as grouped
use Rattle.tb_session.specs.Calls.{caller_on}
use Rattle.tb_session.specs.Groups.{TellUnknown, replied_by}
use Rattle.tb_session.proofs.CrashLemmas.{crash-from, crash-room}
use Rattle.tb_session.proofs.CallerLemmas.{none-of, running-is}
use Rattle.tb_session.proofs.GroupLemmas.{doubted-known, doubted-said, group-doubted, group-told, lacked-known, lacked-said, nothing-told, together-from, together-lacked, together-unknown, unknown-tells, unknown-unknown}
use Rattle.tb_session.proofs.room.Room.group_at.Goals as goal

pub returns-in_default-clause-does : goal.returns-in_default-clause-does
returns-in_default-clause-does g c =
    together-unknown c.args.self.now.operator c.args.key.now c.args.moment c.args.messages.now
    c.refuse_each.new.verdicts (held c.args.self.now.desk) c.args.self.now.desk.faults c.know_desk.ensures.legal
    (sym c.caller.ensures ∙ none-of c.caller.result c.in_default.not-Some)

pub returns-in_default-clause-tells : goal.returns-in_default-clause-tells
returns-in_default-clause-tells g c =
    unknown-tells c.args.self.now.operator c.args.key.now c.args.moment c.args.messages.now c.refuse_each.new.verdicts
    c.refuse_each.ensures

pub returns-in_default-clause-unknown : goal.returns-in_default-clause-unknown
returns-in_default-clause-unknown g c =
    unknown-unknown c.args.self.now.operator c.args.key.now c.args.moment c.args.messages.now
    c.refuse_each.new.verdicts _ (sym c.caller.ensures ∙ none-of c.caller.result c.in_default.not-Some)

pub returns-then-is_err-clause-does : goal.returns-then-is_err-clause-does
returns-then-is_err-clause-does g c =
    let room = c.args.self.now in
    let mid = c.make_room_group.new.self in
    together-lacked room.operator c.args.key.now c.args.moment c.args.messages.now c.clear.new.verdicts (held room.desk)
    (held mid) room.desk.faults mid.faults c.make_room_group.ensures.history c.make_room_group.ensures.same.doubt
    c.make_room_group.ensures.same.faults c.know_desk.ensures.legal

pub returns-then-is_err-clause-tells : goal.returns-then-is_err-clause-tells
returns-then-is_err-clause-tells g c = (
  lacked-said c.args.self.now.operator c.args.key.now c.args.moment c.args.messages.now c.clear.new.verdicts,
  c.clear.ensures,
)

pub returns-then-is_err-clause-unknown : goal.returns-then-is_err-clause-unknown
returns-then-is_err-clause-unknown g c =
    lacked-known c.args.self.now.operator c.args.key.now c.args.moment c.args.messages.now c.clear.new.verdicts _
    c.in-Some.caller (sym c.caller.ensures ∙ c.in-Some.is)

pub returns-in-Verdicts-clause-does : goal.returns-in-Verdicts-clause-does
returns-in-Verdicts-clause-does g c =
    let room = c.args.self.now in
    let mid = c.make_room_group.new.self in
    let known = subst (λ l. caller_on room.operator l c.args.key.now ≡ Some c.in-Some.caller)
    (sym c.make_room_group.ensures.history) (sym c.caller.ensures ∙ c.in-Some.is) in
    let told =
    group-told room.operator c.args.key.now c.in-Some.caller c.args.moment c.args.messages.now mid.gate
    (g.D.Disk.disk mid.disk) (held mid) (held c.submit_group.new.self) mid.faults c.submit_group.new.self.faults
    c.submit_group.new.verdicts c.in-Verdicts.ensures.turn.0 c.bytes-name.ensures.name c.requires.numbered known
    c.in-Verdicts.ensures.turn.1 c.in-Verdicts.ensures.turn.2 c.in-Verdicts.ensures.faults in
    together-from room.operator (held room.desk) (held mid) (held c.submit_group.new.self) room.desk.faults mid.faults
    c.submit_group.new.self.faults _ c.make_room_group.ensures.history c.make_room_group.ensures.same.doubt
    c.make_room_group.ensures.same.faults told.does

pub returns-in-Verdicts-clause-tells : goal.returns-in-Verdicts-clause-tells
returns-in-Verdicts-clause-tells g c =
    let room = c.args.self.now in
    let mid = c.make_room_group.new.self in
    let known = subst (λ l. caller_on room.operator l c.args.key.now ≡ Some c.in-Some.caller)
    (sym c.make_room_group.ensures.history) (sym c.caller.ensures ∙ c.in-Some.is) in
    let told =
    group-told room.operator c.args.key.now c.in-Some.caller c.args.moment c.args.messages.now mid.gate
    (g.D.Disk.disk mid.disk) (held mid) (held c.submit_group.new.self) mid.faults c.submit_group.new.self.faults
    c.submit_group.new.verdicts c.in-Verdicts.ensures.turn.0 c.bytes-name.ensures.name c.requires.numbered known
    c.in-Verdicts.ensures.turn.1 c.in-Verdicts.ensures.turn.2 c.in-Verdicts.ensures.faults in
    told.tells

pub returns-in-Verdicts-clause-unknown : goal.returns-in-Verdicts-clause-unknown
returns-in-Verdicts-clause-unknown g c =
    let room = c.args.self.now in
    let mid = c.make_room_group.new.self in
    let known = subst (λ l. caller_on room.operator l c.args.key.now ≡ Some c.in-Some.caller)
    (sym c.make_room_group.ensures.history) (sym c.caller.ensures ∙ c.in-Some.is) in
    let told =
    group-told room.operator c.args.key.now c.in-Some.caller c.args.moment c.args.messages.now mid.gate
    (g.D.Disk.disk mid.disk) (held mid) (held c.submit_group.new.self) mid.faults c.submit_group.new.self.faults
    c.submit_group.new.verdicts c.in-Verdicts.ensures.turn.0 c.bytes-name.ensures.name c.requires.numbered known
    c.in-Verdicts.ensures.turn.1 c.in-Verdicts.ensures.turn.2 c.in-Verdicts.ensures.faults in
    subst (λ o. TellUnknown o
    (replied_by c.args.key.now c.args.moment (grouped.Told c.in-Some.caller) c.args.messages.now
    c.submit_group.new.verdicts)) (sym (sym c.caller.ensures ∙ c.in-Some.is)) told.known

pub returns-in-DiskFault-clause-does : goal.returns-in-DiskFault-clause-does
returns-in-DiskFault-clause-does g c =
    let room = c.args.self.now in
    let mid = c.make_room_group.new.self in
    let new = c.submit_group.new.self in
    let known = subst (λ l. caller_on room.operator l c.args.key.now ≡ Some c.in-Some.caller)
    (sym c.make_room_group.ensures.history) (sym c.caller.ensures ∙ c.in-Some.is) in
    together-from room.operator (held room.desk) (held mid) (held new) room.desk.faults mid.faults new.faults _
    c.make_room_group.ensures.history c.make_room_group.ensures.same.doubt c.make_room_group.ensures.same.faults
    (group-doubted room.operator c.args.key.now c.in-Some.caller c.args.moment c.args.messages.now mid.gate
    (g.D.Disk.disk mid.disk) (held mid) (held new) mid.faults new.faults c.submit_group.new.verdicts
    c.in-DiskFault.ensures.turn.0 c.later.result c.bytes-name.ensures.name c.requires.numbered known
    c.in-DiskFault.ensures.turn.1 c.in-DiskFault.ensures.turn.2 c.in-DiskFault.ensures.faults
    (omega (arith, c.know_desk.ensures.limited, c.make_room_group.ensures.same.faults))
    (running-is new.host.history c.args.moment c.last.result c.later.result c.last.ensures c.later.ensures))

pub returns-in-DiskFault-clause-tells : goal.returns-in-DiskFault-clause-tells
returns-in-DiskFault-clause-tells g c = (
  doubted-said c.args.self.now.operator c.args.key.now c.in-Some.caller c.args.moment c.later.result c.args.messages.now
      c.submit_group.new.verdicts,
  nothing-told c.submit_group.new.verdicts c.in-DiskFault.ensures.turn.0 c.in-DiskFault.ensures.turn.1,
)

pub returns-in-DiskFault-clause-unknown : goal.returns-in-DiskFault-clause-unknown
returns-in-DiskFault-clause-unknown g c =
    doubted-known c.args.self.now.operator c.args.key.now c.in-Some.caller c.args.moment c.later.result
    c.args.messages.now c.submit_group.new.verdicts _ (sym c.caller.ensures ∙ c.in-Some.is)

pub returns-then-is_err-clause-crash : goal.returns-then-is_err-clause-crash
returns-then-is_err-clause-crash g c =
    let room = c.args.self.now in
    let mid = c.make_room_group.new.self in
    crash-room (held room.desk) (held mid) (g.D.Disk.disk room.desk.disk) (g.D.Disk.disk mid.disk)
    c.make_room_group.ensures.history c.make_room_group.ensures.same.doubt
    (ap g.D.Disk.disk c.make_room_group.ensures.same.disk) c.know_desk.ensures.still

pub returns-in-Verdicts-clause-crash : goal.returns-in-Verdicts-clause-crash
returns-in-Verdicts-clause-crash g c =
    let room = c.args.self.now in
    let mid = c.make_room_group.new.self in
    let new = c.submit_group.new.self in
    crash-from (held room.desk) (held mid) (held new) (g.D.Disk.disk room.desk.disk) (g.D.Disk.disk mid.disk)
    (g.D.Disk.disk new.disk) c.make_room_group.ensures.history c.make_room_group.ensures.same.doubt
    (ap g.D.Disk.disk c.make_room_group.ensures.same.disk) c.submit_group.ensures.crash

pub returns-in-DiskFault-clause-crash : goal.returns-in-DiskFault-clause-crash
returns-in-DiskFault-clause-crash g c =
    let room = c.args.self.now in
    let mid = c.make_room_group.new.self in
    let new = c.submit_group.new.self in
    crash-from (held room.desk) (held mid) (held new) (g.D.Disk.disk room.desk.disk) (g.D.Disk.disk mid.disk)
    (g.D.Disk.disk new.disk) c.make_room_group.ensures.history c.make_room_group.ensures.same.doubt
    (ap g.D.Disk.disk c.make_room_group.ensures.same.disk) c.submit_group.ensures.crash
