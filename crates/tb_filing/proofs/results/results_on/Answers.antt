-- The operator is told the results of a published auction.
use Rattle.std.proofs.Common.{◌≡◌, ℕ, List, Some, sym, ap, subst, ◌∙◌}
use Rattle.std.specs.Prelude.{Err}
use Rattle.tb_message.specs.declared.query.Query.TheVariants as query
use Rattle.tb_history.specs.Answer.{query_refusal}
use Rattle.tb_history.specs.Entries.{operator}
use Rattle.tb_history.specs.Readings.{IsReading}
use Rattle.tb_history.specs.declared.reading.Reading.{Reading}
use Rattle.tb_filing.proofs.PublishedLemmas.{results-read, results-told}
use Rattle.tb_filing.proofs.results.results_on.Goals as goal

pub results_in-requires : goal.results_in-requires
results_in-requires g c =
    results-read c.args.desk.now.host.history c.operator.result c.args.auction.now c.in-Ok.reading
    c.in-Ok.ensures.reading

pub returns-in-Ok : goal.returns-in-Ok
returns-in-Ok g c =
    let history = c.args.desk.now.host.history in
    subst (λ (told : Reading). IsReading history operator (query.Results c.args.auction.now) told) c.results_in.ensures
    (subst (λ (caller : List ℕ). IsReading history caller (query.Results c.args.auction.now) c.in-Ok.reading)
    c.operator.ensures c.in-Ok.ensures.reading)

-- a refusal would be that of the operator's query, which has none
pub unreachable-requires : goal.unreachable-requires
unreachable-requires g c =
    let history = c.args.desk.now.host.history in
    let none = results-told history c.args.auction.now c.entries.ensures.legal c.requires in
    let refused = (c.read.ensures.refused c.in-Err-Refused.field-0-0).0
    (c.in-Err-Refused.is ∙ ap Err c.in-Err-Refused.field-0-is) in
    let told = subst (λ (caller : List ℕ). query_refusal history caller (query.Results c.args.auction.now)
    ≡ Some c.in-Err-Refused.field-0-0) c.operator.ensures refused in
    let wrong = sym none ∙ told in cc
