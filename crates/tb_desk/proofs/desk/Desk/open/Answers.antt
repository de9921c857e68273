-- What an opening finds, and that it is exact.
use Rattle.std.proofs.lemmas.Result.{MatchResult-weaker}
use Rattle.tb_journal.specs.Opening.{IsHarmless, Opens}
use Rattle.tb_journal.proofs.OpeningLemmas.{told_kept}
use Rattle.tb_desk.specs.Replay.{LeavesRefused}
use Rattle.tb_desk.proofs.GroupLemmas.{if_err_both}
use Rattle.tb_desk.proofs.ExactLemmas.{lifted_exact, lifted_leaves, found_history, found_exact, replay_exact, replay_leaves}
use Rattle.tb_desk.proofs.desk.Desk.open.Goals as goal

pub returns-in-Err-clause-exact_refusal : goal.returns-in-Err-clause-exact_refusal
returns-in-Err-clause-exact_refusal g c =
    rw c.lifted.ensures (lifted_exact (g.D.Disk.disk c.args.disk).past c.in-Err.fault c.in-Err.ensures.exact_refusal)

pub returns-in-Err-clause-refused : goal.returns-in-Err-clause-refused
returns-in-Err-clause-refused g c =
    let d = g.D.Disk.disk in
    rw c.lifted.ensures (lifted_leaves c.in-Err.fault (d c.args.disk) (d c.in-Err.disk) c.in-Err.ensures.refused)

pub returns-in-Ok-clause-found : goal.returns-in-Ok-clause-found
returns-in-Ok-clause-found g c =
    let d = g.D.Disk.disk in
    MatchResult-weaker c.ready.result c.ready.ensures.found
    (λ desk replayed. found_history c.in-Ok.journal.gate desk.host.history (d c.args.disk) (d c.in-Ok.journal.disk)
    c.in-Ok.ensures.found replayed) (λ refused h. h)

pub returns-in-Ok-clause-exact : goal.returns-in-Ok-clause-exact
returns-in-Ok-clause-exact g c =
    let d = g.D.Disk.disk in
    MatchResult-weaker c.ready.result c.ready.ensures.found
    (λ desk replayed. found_exact c.in-Ok.journal.gate desk.host.history (d c.args.disk) (d c.in-Ok.journal.disk)
    c.in-Ok.ensures.found replayed) (λ refused h. h)

pub returns-in-Ok-clause-exact_refusal : goal.returns-in-Ok-clause-exact_refusal
returns-in-Ok-clause-exact_refusal g c =
    let d = g.D.Disk.disk in
    MatchResult-weaker c.ready.result c.ready.ensures.refused (λ desk h. h)
    (λ refused bad. replay_exact c.in-Ok.journal.gate refused.1 (d c.args.disk) (d c.in-Ok.journal.disk)
    c.in-Ok.ensures.found bad)

pub returns-in-Ok-clause-refused : goal.returns-in-Ok-clause-refused
returns-in-Ok-clause-refused g c =
    let d = g.D.Disk.disk in
    if_err_both c.ready.result _ _ _ c.ready.ensures.refused c.ready.ensures.kept_refused
    (λ refused bad kept. told_kept (LeavesRefused refused.1) (d c.args.disk) (d c.in-Ok.journal.disk) (d refused.0) kept
    (replay_leaves c.in-Ok.journal.gate refused.1 (d c.args.disk) (d c.in-Ok.journal.disk) c.in-Ok.ensures.found
    c.in-Ok.ensures.steps bad))

pub returns-in-Ok-clause-steps : goal.returns-in-Ok-clause-steps
returns-in-Ok-clause-steps g c =
    let d = g.D.Disk.disk in
    MatchResult-weaker c.ready.result c.ready.ensures.kept
    (λ desk kept. told_kept Opens (d c.args.disk) (d c.in-Ok.journal.disk) (d desk.disk) kept c.in-Ok.ensures.steps)
    (λ refused h. h)

pub returns-in-Ok-clause-crash : goal.returns-in-Ok-clause-crash
returns-in-Ok-clause-crash g c =
    let d = g.D.Disk.disk in
    MatchResult-weaker c.ready.result c.ready.ensures.kept
    (λ desk kept. told_kept IsHarmless (d c.args.disk) (d c.in-Ok.journal.disk) (d desk.disk) kept
    c.in-Ok.ensures.crash)
    (λ refused h. h)

pub returns-in-Ok-clause-crash_refused : goal.returns-in-Ok-clause-crash_refused
returns-in-Ok-clause-crash_refused g c =
    let d = g.D.Disk.disk in
    MatchResult-weaker c.ready.result c.ready.ensures.kept_refused (λ desk h. h)
    (λ refused kept. told_kept IsHarmless (d c.args.disk) (d c.in-Ok.journal.disk) (d refused.0) kept
    c.in-Ok.ensures.crash)
