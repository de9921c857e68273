-- The figures are those of the trial's bidding.
use Rattle.std.proofs.Common.{Option, ◌∙◌, subst}
use Rattle.tb_history.specs.declared.readings.Figures.{Figures}
use Rattle.tb_history.specs.Readings.{AreFigures}
use Rattle.tb_trial.specs.Trials.{trial_bidding}
use Rattle.tb_trial.proofs.TrialLemmas.{IsBookOf-trial, figures-of, figures-some}
use Rattle.tb_trial.proofs.running.trial.Goals as goal

pub results-requires-clause-bidding : goal.results-requires-clause-bidding
results-requires-clause-bidding c = (
  trial_bidding c.args.seed c.args.count,
  IsBookOf-trial c.args.seed c.args.count c.in_ok-terms.terms c.in_ok-book.book.lines c.deref.result.now
      c.in_ok-terms.ensures c.in_ok-book.ensures.booked (c.deref.ensures.value ∙ c.in_ok-positions.ensures),
)

pub unwrap-requires : goal.unwrap-requires
unwrap-requires c =
    figures-some c.args.seed c.args.count c.in_ok-results.results.figures c.requires.some
    (figures-of c.args.seed c.args.count c.in_ok-terms.terms c.in_ok-book.book.lines c.deref.result.now
    c.in_ok-results.results c.in_ok-terms.ensures c.in_ok-book.ensures.booked
    (c.deref.ensures.value ∙ c.in_ok-positions.ensures) c.in_ok-results.ensures)

pub returns : goal.returns
returns c =
    subst (λ (found : Option Figures). AreFigures (trial_bidding c.args.seed c.args.count) found) c.unwrap.ensures
    (figures-of c.args.seed c.args.count c.in_ok-terms.terms c.in_ok-book.book.lines c.deref.result.now
    c.in_ok-results.results c.in_ok-terms.ensures c.in_ok-book.ensures.booked
    (c.deref.ensures.value ∙ c.in_ok-positions.ensures) c.in_ok-results.ensures)
