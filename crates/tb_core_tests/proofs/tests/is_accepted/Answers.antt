-- The verdict has this number and this moment.
use Rattle.std.proofs.Common.{◌≡◌, ◌==◌, true, ◌∙◌, ap₂}
use Rattle.std.proofs.lemmas.Bool.{eqb-true}
use Rattle.tb_units.specs.Same.{same_moment}
use Rattle.tb_message.specs.declared.verdict.Verdict.TheVariants as outcome
use Rattle.tb_core_tests.proofs.tests.is_accepted.Goals as goal

pub returns-then-given-number : goal.returns-then-given-number
returns-then-given-number c is =
    c.in-Accepted.is
    ∙ ap₂ (λ n m. outcome.Accepted n m) c.if-given-number.true
    (same_moment c.in-Accepted.noted c.args.moment
    (eqb-true c.in-Accepted.noted.seconds c.args.moment.seconds is))
