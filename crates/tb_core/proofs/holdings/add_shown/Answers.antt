-- The line stands behind the others.
use Rattle.tb_core.proofs.ShownLemmas.{lines-hidden, lines-shown, on_ok}
use Rattle.tb_core.proofs.holdings.add_shown.Goals as goal

pub returns-in-Some : goal.returns-in-Some
returns-in-Some c =
    on_ok c.push.result c.push.ensures.pushed
    (λ pushed history participant front tied known same are.
    rw pushed (lines-shown history participant front c.args.lines.now c.args.terms.now.announcement c.in-Some.line are
    (c.in-Some.ensures history participant tied known same)))

pub returns-in-None : goal.returns-in-None
returns-in-None c history participant front tied known same are =
    lines-hidden history participant front c.args.lines.now c.args.terms.now.announcement are
    (c.in-None.ensures history participant tied known same)
