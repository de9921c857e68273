-- What was paid of the security stands in its run.
use Rattle.std.proofs.Common.{refl, ◌∙◌, ap, sym}
use Rattle.tb_holdings.specs.Holdings.{held_in}
use Rattle.tb_holdings.proofs.RunLemmas.{IsRun-found, held_in-own, held_in-run}
use Rattle.tb_holdings.proofs.runs.paid_to.Goals as goal

pub returns-in-Some : goal.returns-in-Some
returns-in-Some c =
    c.held_among.ensures
    ∙ held_in-run c.args.holder c.args.security c.args.paid.now c.in-Some.run'
    (IsRun-found c.args.paid.now c.args.runs.now c.in-Some.run' c.requires c.in-Some.ensures.found)
    c.in-Some.ensures.own

pub returns-in-None : goal.returns-in-None
returns-in-None c =
    sym (ap (held_in c.args.holder c.args.security) (c.requires.others c.args.security (c.in-None.ensures.none refl)))
    ∙ held_in-own c.args.holder c.args.security c.args.paid.now
