-- What a query is told.
use Rattle.std.proofs.Common.{sym, ◌∙◌, ap, subst}
use Rattle.std.specs.Prelude.{Err}
use Rattle.tb_desk.specs.Desks.{held}
use Rattle.tb_session.specs.declared.answer.Answer.TheVariants as answer
use Rattle.tb_session.specs.declared.called.Outcome.TheVariants as outcome
use Rattle.tb_session.specs.Turned.{Does, query_call}
use Rattle.tb_session.proofs.CallerLemmas.{none-of}
use Rattle.tb_session.proofs.DoesLemmas.{does-unknown_query, does-refused_query, does-read, does-lack_query, not-refused, tells-known, tells-unknown, query-knows}
use Rattle.tb_session.proofs.room.Room.tell.Goals as goal

pub returns-in_default-clause-does : goal.returns-in_default-clause-does
returns-in_default-clause-does g c =
    let room = c.args.self.now in
    subst (λ said. Does room.operator (held room.desk) (held room.desk) room.desk.faults room.desk.faults
    (query_call c.args.key.now c.args.query.now outcome.Told) said) (sym c.refused.ensures)
    (does-unknown_query room.operator (held room.desk) room.desk.faults c.args.key.now c.args.query.now
    c.know_desk.ensures.legal (sym c.caller.ensures ∙ none-of c.caller.result c.in_default.not-Some))

pub returns-in-Ok-clause-does : goal.returns-in-Ok-clause-does
returns-in-Ok-clause-does g c =
    let room = c.args.self.now in
    does-read room.operator (held room.desk) room.desk.faults c.args.key.now c.in-Some.caller c.args.query.now
    c.in-Ok.reading c.know_desk.ensures.legal (sym c.caller.ensures ∙ c.in-Some.is)
    (not-refused c.read.result c.in-Ok.reading _ c.in-Ok.is c.read.ensures.refused) c.in-Ok.ensures.reading

pub returns-in-Err-Refused-clause-does : goal.returns-in-Err-Refused-clause-does
returns-in-Err-Refused-clause-does g c =
    let room = c.args.self.now in
    let why = c.in-Err-Refused.refusal in
    let failed = c.in-Err-Refused.is ∙ ap Err c.in-Err-Refused.field-0-is in
    subst (λ said. Does room.operator (held room.desk) (held room.desk) room.desk.faults room.desk.faults
    (query_call c.args.key.now c.args.query.now outcome.Told) said) (sym c.refused-in-Err-Refused.ensures)
    (does-refused_query room.operator (held room.desk) room.desk.faults c.args.key.now c.in-Some.caller
    c.args.query.now why
    c.know_desk.ensures.legal (sym c.caller.ensures ∙ c.in-Some.is) ((c.read.ensures.refused why).0 failed))

pub returns-in-Err-OutOfMemory-clause-does : goal.returns-in-Err-OutOfMemory-clause-does
returns-in-Err-OutOfMemory-clause-does g c =
    let room = c.args.self.now in
    does-lack_query room.operator (held room.desk) room.desk.faults c.args.key.now c.args.query.now
    c.know_desk.ensures.legal

pub returns-in_default-clause-unknown : goal.returns-in_default-clause-unknown
returns-in_default-clause-unknown g c =
    tells-unknown _ _ (sym c.caller.ensures ∙ none-of c.caller.result c.in_default.not-Some) c.refused.ensures

pub returns-in-Ok-clause-unknown : goal.returns-in-Ok-clause-unknown
returns-in-Ok-clause-unknown g c =
    tells-known _ c.in-Some.caller (answer.Reading c.in-Ok.reading) (sym c.caller.ensures ∙ c.in-Some.is) (λ is. cc)

pub returns-in-Err-Refused-clause-unknown : goal.returns-in-Err-Refused-clause-unknown
returns-in-Err-Refused-clause-unknown g c =
    let room = c.args.self.now in
    let why = c.in-Err-Refused.refusal in
    let knows = sym c.caller.ensures ∙ c.in-Some.is in
    let failed = c.in-Err-Refused.is ∙ ap Err c.in-Err-Refused.field-0-is in
    tells-known _ c.in-Some.caller _ knows
    (λ is. query-knows room.operator room.desk.host.history c.args.key.now c.in-Some.caller c.args.query.now why knows
    ((c.read.ensures.refused why).0 failed) (sym c.refused-in-Err-Refused.ensures ∙ is))

pub returns-in-Err-OutOfMemory-clause-unknown : goal.returns-in-Err-OutOfMemory-clause-unknown
returns-in-Err-OutOfMemory-clause-unknown g c =
    tells-known _ c.in-Some.caller answer.OutOfMemory (sym c.caller.ensures ∙ c.in-Some.is) (λ is. cc)
