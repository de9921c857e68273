-- What opening a journal of the first version finds, and that it is exact.
use Rattle.std.proofs.lemmas.Result.{MatchResult-weaker}
use Rattle.tb_message.specs.declared.version.Version.TheVariants.{First}
use Rattle.tb_desk.proofs.ExactLemmas.{lifted_exact_in, found_exact_in, replay_exact_in}
use Rattle.tb_desk.proofs.MigrationLemmas.{finds_first}
use Rattle.tb_desk.proofs.migration.open_first.Goals as goal

pub returns-in-Ok-clause-exact : goal.returns-in-Ok-clause-exact
returns-in-Ok-clause-exact g c =
    let d = g.D.Disk.disk in
    let journal = c.in-Ok.journal in
    let finds = finds_first journal.gate (d c.args.from.now) (d journal.disk.now) c.in-Ok.ensures.steps
    c.in-Ok.ensures.exact in
    MatchResult-weaker c.replay.result c.replay.ensures.found
    (λ host replayed. found_exact_in First journal.gate host.history (d c.args.from.now) (d journal.disk.now) finds
    replayed) (λ refused h. h)

pub returns-in-Ok-clause-exact_refusal : goal.returns-in-Ok-clause-exact_refusal
returns-in-Ok-clause-exact_refusal g c =
    let d = g.D.Disk.disk in
    let journal = c.in-Ok.journal in
    let finds = finds_first journal.gate (d c.args.from.now) (d journal.disk.now) c.in-Ok.ensures.steps
    c.in-Ok.ensures.exact in
    MatchResult-weaker c.replay.result c.replay.ensures.refused (λ host h. h)
    (λ why bad. replay_exact_in First journal.gate why (d c.args.from.now) (d journal.disk.now) finds bad)

pub returns-in-Err-clause-exact_refusal : goal.returns-in-Err-clause-exact_refusal
returns-in-Err-clause-exact_refusal g c =
    rw c.lifted.ensures (lifted_exact_in First (g.D.Disk.disk c.args.from.now).past c.in-Err.fault
    c.in-Err.ensures.exact_refusal)
