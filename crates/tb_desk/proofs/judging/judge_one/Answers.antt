-- What is added keeps the history legal, and its moment is the last.
use Rattle.std.proofs.Common.{◌≡◌, Option, IfSome, ap, sym, ◌∙◌, subst, arith}
use Rattle.tb_units.specs.declared.moment.Moment.{Moment}
use Rattle.tb_message.specs.declared.message.Entry.{Entry}
use Rattle.tb_history.specs.Legal.{IsLegal, Longer, Follows, last_of}
use Rattle.tb_history.proofs.HistoryLemmas.{last_of-push}
use Rattle.tb_desk.proofs.judging.judge_one.Goals as goal

pub returns-in-Some-clause-legal : goal.returns-in-Some-clause-legal
returns-in-Some-clause-legal c =
    let history = c.args.host.now.history in
    let follows : Follows history c.in-Some.entry =
    subst (λ (found : Option Entry). IfSome found (λ found. Follows history found)) c.in-Some.is
    c.decide-verdict.ensures.follows in
    subst IsLegal (sym c.apply.ensures.history) (Longer history c.in-Some.entry c.requires.legal follows)

pub returns-in-Some-clause-in_time : goal.returns-in-Some-clause-in_time
returns-in-Some-clause-in_time c =
    let history = c.args.host.now.history in
    let entry = c.in-Some.entry in
    let same : (entry.message ≡ c.args.message.now) × (entry.moment ≡ c.args.moment) =
    subst (λ (found : Option Entry). IfSome found (λ found. (found.message ≡ c.args.message.now)
    × (found.moment ≡ c.args.moment)))
    c.in-Some.is c.decide-verdict.ensures.message in
    let last = ap last_of c.apply.ensures.history ∙ (last_of-push 946702800 history entry
    ∙ ap (λ (m : Moment). m.seconds) same.1) in
    omega (arith, last)
