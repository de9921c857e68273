-- What is announced is the trial's announcement, field by field.
use Rattle.std.proofs.Common.{◌≡◌, Some, refl, sym, ◌∙◌}
use Rattle.tb_units.specs.Amounts.{dollars_of}
use Rattle.tb_terms.specs.Same.{same_announcement}
use Rattle.tb_history.specs.Values.{day_of}
use Rattle.tb_trial.specs.Trials.{trial_announcement, trial_name}
use Rattle.tb_trial.proofs.AnnouncedLemmas.{trial_name-is}
use Rattle.tb_trial.proofs.announcing.announced.Goals as goal

pub unwrap-requires : goal.unwrap-requires
unwrap-requires c = rw (c.read.ensures.name, trial_name-is) refl

pub returns : goal.returns
unfolding trial_announcement dollars_of day_of
returns c =
    let named : Some c.unwrap.result ≡ Some trial_name = sym c.unwrap.ensures ∙ c.read.ensures.name ∙ trial_name-is in
    same_announcement _ trial_announcement record {
      auction = cc;
      cusip = refl;
      offering = c.dollars.ensures;
      minimum = c.dollars-2.ensures;
      ceiling = c.dollars-3.ensures;
      floor = c.dollars-4.ensures;
      threshold = c.dollars-5.ensures;
      date = refl;
      noncompetitive_close = refl;
      competitive_close = refl;
      issued = refl;
      matures = refl;
    }
