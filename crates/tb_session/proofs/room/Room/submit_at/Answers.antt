-- A message, by what the desk answers.
use Rattle.std.proofs.Common.{◌≡◌, sym, ◌∙◌, ap, subst, Some, arith}
use Rattle.tb_desk.specs.Desks.{CountsFault, held, replies_of}
use Rattle.tb_desk.specs.Turn.{Turns}
use Rattle.tb_session.specs.declared.answer.Answer.TheVariants as answer
use Rattle.tb_session.specs.declared.called.Outcome.TheVariants as outcome
use Rattle.tb_session.specs.Calls.{caller_on}
use Rattle.tb_session.specs.Turned.{Does, message_call, outcome_by}
use Rattle.tb_session.proofs.CallerLemmas.{none-of}
use Rattle.tb_session.proofs.CrashLemmas.{crash-from, crash-room}
use Rattle.tb_session.proofs.DoesLemmas.{one_asked, does-unknown, does-lack, does-verdict, does-doubted, does-from, tells-known, tells-unknown, verdict-knows}
use Rattle.tb_session.proofs.room.Room.submit_at.Goals as goal

pub returns-in_default-clause-does : goal.returns-in_default-clause-does
returns-in_default-clause-does g c =
    let room = c.args.self.now in
    subst (λ said. Does room.operator (held room.desk) (held room.desk) room.desk.faults room.desk.faults
    (message_call c.args.key.now c.args.number c.args.moment c.args.message.now outcome.Told) said)
    (sym c.refused.ensures)
    (does-unknown room.operator (held room.desk) room.desk.faults c.args.key.now c.args.number c.args.moment
    c.args.message.now c.know_desk.ensures.legal (sym c.caller.ensures ∙ none-of c.caller.result c.in_default.not-Some))

pub returns-then-is_err-clause-does : goal.returns-then-is_err-clause-does
returns-then-is_err-clause-does g c =
    let room = c.args.self.now in
    let mid = c.make_room.new.self in
    does-lack room.operator (held room.desk) (held mid) room.desk.faults mid.faults c.args.key.now c.args.number
    c.args.moment c.args.message.now c.make_room.ensures.history c.make_room.ensures.same.doubt
    c.make_room.ensures.same.faults c.know_desk.ensures.legal

pub returns-in-Verdict-clause-does : goal.returns-in-Verdict-clause-does
returns-in-Verdict-clause-does g c =
    let room = c.args.self.now in
    let mid = c.make_room.new.self in
    let new = c.submit-reply.new.self in
    let said = c.in-Verdict.verdict in
    let message = c.args.message.now in
    let came = outcome_by c.in-Some.caller c.args.number message said in
    let asked = one_asked c.in-Some.caller c.args.number c.args.moment message in
    let known = subst (λ l. caller_on room.operator l c.args.key.now ≡ Some c.in-Some.caller)
    (sym c.make_room.ensures.history) (sym c.caller.ensures ∙ c.in-Some.is) in
    let turns = subst (λ r. Turns mid.gate (g.D.Disk.disk mid.disk) asked (held mid) (held new) (replies_of r))
    c.in-Verdict.is c.submit-reply.ensures.turn in
    let counts = subst (λ r. CountsFault (replies_of r) mid.faults new.faults) c.in-Verdict.is
    c.submit-reply.ensures.faults in
    subst (λ o. Does room.operator (held room.desk) (held new) room.desk.faults new.faults
    (message_call c.args.key.now c.args.number c.args.moment message o) (answer.Verdict said))
    (sym c.outcome_of-outcome.ensures)
    (does-from room.operator (held room.desk) (held mid) (held new) room.desk.faults mid.faults new.faults
    (message_call c.args.key.now c.args.number c.args.moment message came) (answer.Verdict said)
    c.make_room.ensures.history c.make_room.ensures.same.doubt c.make_room.ensures.same.faults
    (does-verdict room.operator c.args.key.now c.in-Some.caller c.args.number c.args.moment message mid.gate
    (g.D.Disk.disk mid.disk) (held mid) (held new) mid.faults new.faults said
    (record { named = c.bytes-name.ensures.name; numbered = c.requires.numbered }) known turns counts))

pub returns-in-DiskFault-clause-does : goal.returns-in-DiskFault-clause-does
returns-in-DiskFault-clause-does g c =
    let room = c.args.self.now in
    let mid = c.make_room.new.self in
    let new = c.submit-reply.new.self in
    let message = c.args.message.now in
    let asked = one_asked c.in-Some.caller c.args.number c.args.moment message in
    let known = subst (λ l. caller_on room.operator l c.args.key.now ≡ Some c.in-Some.caller)
    (sym c.make_room.ensures.history) (sym c.caller.ensures ∙ c.in-Some.is) in
    let turns = subst (λ r. Turns mid.gate (g.D.Disk.disk mid.disk) asked (held mid) (held new) (replies_of r))
    c.in-DiskFault.is c.submit-reply.ensures.turn in
    let counts = subst (λ r. CountsFault (replies_of r) mid.faults new.faults) c.in-DiskFault.is
    c.submit-reply.ensures.faults in
    subst (λ e. Does room.operator (held room.desk) (held new) room.desk.faults new.faults
    (message_call c.args.key.now c.args.number c.args.moment message (outcome.Doubted e)) answer.DiskFault)
    (sym c.doubted-entry.ensures)
    (does-from room.operator (held room.desk) (held mid) (held new) room.desk.faults mid.faults new.faults _
    answer.DiskFault c.make_room.ensures.history c.make_room.ensures.same.doubt c.make_room.ensures.same.faults
    (does-doubted room.operator c.args.key.now c.in-Some.caller c.args.number c.args.moment message mid.gate
    (g.D.Disk.disk mid.disk) (held mid) (held new) mid.faults new.faults
    (record { named = c.bytes-name.ensures.name; numbered = c.requires.numbered }) known turns counts
    (omega (arith, c.know_desk.ensures.limited, c.make_room.ensures.same.faults))))

pub returns-in_default-clause-unknown : goal.returns-in_default-clause-unknown
returns-in_default-clause-unknown g c =
    tells-unknown _ _ (sym c.caller.ensures ∙ none-of c.caller.result c.in_default.not-Some) c.refused.ensures

pub returns-then-is_err-clause-unknown : goal.returns-then-is_err-clause-unknown
returns-then-is_err-clause-unknown g c =
    tells-known _ c.in-Some.caller answer.OutOfMemory (sym c.caller.ensures ∙ c.in-Some.is) (λ is. cc)

pub returns-in-Verdict-clause-unknown : goal.returns-in-Verdict-clause-unknown
returns-in-Verdict-clause-unknown g c =
    let room = c.args.self.now in
    let mid = c.make_room.new.self in
    let new = c.submit-reply.new.self in
    let said = c.in-Verdict.verdict in
    let message = c.args.message.now in
    let asked = one_asked c.in-Some.caller c.args.number c.args.moment message in
    let knows = sym c.caller.ensures ∙ c.in-Some.is in
    let known = subst (λ l. caller_on room.operator l c.args.key.now ≡ Some c.in-Some.caller)
    (sym c.make_room.ensures.history) knows in
    let turns = subst (λ r. Turns mid.gate (g.D.Disk.disk mid.disk) asked (held mid) (held new) (replies_of r))
    c.in-Verdict.is c.submit-reply.ensures.turn in
    tells-known _ c.in-Some.caller (answer.Verdict said) knows
    (verdict-knows room.operator c.args.key.now c.in-Some.caller c.args.number c.args.moment message mid.gate
    (g.D.Disk.disk mid.disk) (held mid) (held new) said known turns)

pub returns-in-DiskFault-clause-unknown : goal.returns-in-DiskFault-clause-unknown
returns-in-DiskFault-clause-unknown g c =
    tells-known _ c.in-Some.caller answer.DiskFault (sym c.caller.ensures ∙ c.in-Some.is) (λ is. cc)

pub returns-then-is_err-clause-crash : goal.returns-then-is_err-clause-crash
returns-then-is_err-clause-crash g c =
    let room = c.args.self.now in
    let mid = c.make_room.new.self in
    crash-room (held room.desk) (held mid) (g.D.Disk.disk room.desk.disk) (g.D.Disk.disk mid.disk)
    c.make_room.ensures.history c.make_room.ensures.same.doubt (ap g.D.Disk.disk c.make_room.ensures.same.disk)
    c.know_desk.ensures.still

pub returns-in-Verdict-clause-crash : goal.returns-in-Verdict-clause-crash
returns-in-Verdict-clause-crash g c =
    let room = c.args.self.now in
    let mid = c.make_room.new.self in
    let new = c.submit-reply.new.self in
    crash-from (held room.desk) (held mid) (held new) (g.D.Disk.disk room.desk.disk) (g.D.Disk.disk mid.disk)
    (g.D.Disk.disk new.disk) c.make_room.ensures.history c.make_room.ensures.same.doubt
    (ap g.D.Disk.disk c.make_room.ensures.same.disk) c.submit-reply.ensures.crash

pub returns-in-DiskFault-clause-crash : goal.returns-in-DiskFault-clause-crash
returns-in-DiskFault-clause-crash g c =
    let room = c.args.self.now in
    let mid = c.make_room.new.self in
    let new = c.submit-reply.new.self in
    crash-from (held room.desk) (held mid) (held new) (g.D.Disk.disk room.desk.disk) (g.D.Disk.disk mid.disk)
    (g.D.Disk.disk new.disk) c.make_room.ensures.history c.make_room.ensures.same.doubt
    (ap g.D.Disk.disk c.make_room.ensures.same.disk) c.submit-reply.ensures.crash
