-- There are figures just where something is recognised.
use Rattle.std.proofs.Common.{subst}
use Rattle.tb_award.specs.declared.outcome.Outcome.{Outcome}
use Rattle.tb_results.specs.Outcomes.{IsCutIn}
use Rattle.tb_results.proofs.FigureLemmas.{figures-booked, figures-none}
use Rattle.tb_results.proofs.publishing.figures_of.Goals as goal

pub returns-in-NoAwards : goal.returns-in-NoAwards
returns-in-NoAwards c bidding lines is announced =
    figures-none bidding lines c.args.recognised.now.lines
    (subst (λ (o : Outcome). IsCutIn bidding lines c.args.recognised.now.lines o) c.in-NoAwards.is is)

pub returns-in-Cut : goal.returns-in-Cut
returns-in-Cut c bidding lines is announced =
    figures-booked bidding c.args.terms.now lines c.args.recognised.now.lines c.in-Cut.cut c.figures_at.result
    (subst (λ (o : Outcome). IsCutIn bidding lines c.args.recognised.now.lines o) c.in-Cut.is is) announced
    c.figures_at.ensures.figures c.figures_at.ensures.investment
