-- The line stands behind the others.
use Rattle.tb_core.proofs.ShownLemmas.{on_ok, payments-hidden, payments-shown}
use Rattle.tb_core.proofs.holdings.add_paid.Goals as goal

pub returns-in-Some : goal.returns-in-Some
returns-in-Some c =
    on_ok c.push.result c.push.ensures.pushed
    (λ pushed history cusip front tied bill known same are.
    rw pushed (payments-shown history cusip front c.args.lines.now c.args.registration.now c.in-Some.line are
    (c.in-Some.ensures history cusip tied bill known same)))

pub returns-in-None : goal.returns-in-None
returns-in-None c history cusip front tied bill known same are =
    payments-hidden history cusip front c.args.lines.now c.args.registration.now are
    (c.in-None.ensures history cusip tied bill known same)
